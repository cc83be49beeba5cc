use Rattle.std.proofs.Common.{◌≡◌, Ok, sym, ap, ◌∙◌, rules}
use Rattle.messages.specs.Parts.{map_ok, told}
use Rattle.buffers.specs.Words.{Bytes}
use Rattle.packets.specs.Laws.{faulted, reading_of}
use Rattle.packets.proofs.Sealed.{one_byte_string, parts_are_the_packet, kind_is_the_first_word, shortest, fixes_are_words}
use Rattle.packets.proofs.read.Goals as goal

pub returns-in_err-read_message : goal.returns-in_err-read_message
returns-in_err-read_message c =
    let e = ap faulted c.read_message.ensures in
    record { value = search rules; one_string = one_byte_string; parts = search rules; kind = kind_is_the_first_word; shortest = shortest; fixes = fixes_are_words }

pub returns : goal.returns
returns c =
    let m = c.in_ok-read_message.field-0 in
    let e : reading_of c.args.limit.bytes c.args.packet.now ≡ Ok (told m) =
    sym (ap faulted c.read_message.ensures) ∙ ap (λ r. faulted (map_ok told r)) c.in_ok-read_message.was in
    let bytes : Bytes c.args.packet.now = λ i. (c.type_inv.packet i).fits in
    record { value = sym e; one_string = one_byte_string; parts = parts_are_the_packet c.args.limit.bytes c.args.packet.now (told m) bytes e; kind = kind_is_the_first_word; shortest = shortest; fixes = fixes_are_words }

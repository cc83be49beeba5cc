use Rattle.std.proofs.Common.{◌≡◌, ℕ, List, ◌++◌, ap, ◌∙◌, append_assoc}
use Rattle.sha256.specs.Sha256.{sha256}
use Rattle.lms.specs.Lms.{u16str, D-MESG, Cksm, Q, summed}
use Rattle.lms.proofs.Texts.{hashed_32}
use Rattle.lms.proofs.one_time.first_steps.Goals as goal

-- the digest of a message behind the text that a buffer holds
digested : (start randomizer message text d : List ℕ) → text ≡ start ++ (D-MESG ++ randomizer) → d ≡ sha256 (text ++ message) → d ≡ Q 32 start randomizer message
digested start randomizer message text d et ed =
    ed ∙ ap (λ t. sha256 (t ++ message)) et
    ∙ ap sha256 (append_assoc start (D-MESG ++ randomizer) message ∙ ap (λ t. start ++ t) (append_assoc D-MESG randomizer message))
    ∙ hashed_32 (start ++ (D-MESG ++ (randomizer ++ message)))

pub returns : goal.returns
returns c =
    let digest = digested c.args.start.now c.args.randomizer.now c.args.message.now c.array-text.result c.hash_joined-digest.result c.array-text.ensures c.hash_joined-digest.ensures in
    let sum : c.to_be_bytes.result ≡ u16str (Cksm c.hash_joined-digest.result) = c.to_be_bytes.ensures ∙ ap u16str c.checksum.ensures in
    c.array.ensures ∙ ap (λ s. c.hash_joined-digest.result ++ s) sum ∙ ap summed digest

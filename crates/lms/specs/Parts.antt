-- Keys and signatures as they are read.
use Rattle.std.specs.Prelude.{Some, None, Option}
use Rattle.lms.specs.declared.parts.KeyParts.{KeyParts}
use Rattle.lms.specs.declared.parts.SignatureParts.{SignatureParts}
use Rattle.lms.specs.Lms.{m32_h5, Key, Signature}

abbrev pub key_read : Option KeyParts → Option Key
key_read None = None
key_read (Some k) = Some (record { form = m32_h5; I = k.id.now; root = k.root.now })

abbrev pub signature_read : Option SignatureParts → Option Signature
signature_read None = None
signature_read (Some s) = Some (record { q = s.leaf; C = s.randomizer.now; y = s.strings.now; path = s.path.now })

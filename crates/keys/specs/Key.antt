-- Keys: read from bytes and from text. Assumes nothing.
use Rattle.std.specs.Prelude.{ℕ, List, eqb, length, replicate}
use Rattle.base.specs.Pick.{pick}
use Rattle.base.specs.Numbers.{key_length, key_digit}
use Rattle.base.specs.Answers.{Answer, checked_says}
use Rattle.base.specs.declared.Checked.TheVariants.{Accepted, Refused}
use Rattle.wire.specs.Hex.{all_hex, unhex}
use Rattle.keys.specs.declared.Aes128Key.{Aes128Key}
use Rattle.keys.specs.declared.KeyRead.{KeyRead}

abbrev pub key_of : List ℕ → Aes128Key
key_of s = record { 0 = s }

abbrev pub null_key : Aes128Key
null_key = key_of (replicate 16 0)

abbrev pub key_read : List ℕ → KeyRead
key_read s = record { answer = Accepted; key = key_of s }

-- beside a refusal stands the null key
abbrev pub key_refused : ℕ → KeyRead
key_refused n = record { answer = Refused n; key = null_key }

-- the key, or the refusal's number
abbrev pub key_says : KeyRead → Answer Aes128Key
key_says r = checked_says r.answer r.key

unfoldable pub key_from_slice : List ℕ → KeyRead
key_from_slice s = pick (eqb (length s) 16) (key_read s) (key_refused key_length)

-- the length before the digits
unfoldable pub key_from_text : List ℕ → KeyRead
key_from_text s = pick (eqb (length s) 32) (pick (all_hex s) (key_read (unhex s)) (key_refused key_digit)) (key_refused key_length)

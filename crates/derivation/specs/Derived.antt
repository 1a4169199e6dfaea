-- The two keys derived from a root key. Assumes nothing.
use Rattle.std.specs.Prelude.{ℕ, List, ◌∷◌, replicate}
use Rattle.fips197.specs.Aes.{aes}

-- 9.6 and 9.7 of the rules, E the cipher under the root key
unfoldable pub signing_key : List ℕ → List ℕ
signing_key root = aes root (replicate 16 0)

unfoldable pub encryption_key : List ℕ → List ℕ
encryption_key root = aes root (1 ∷ replicate 15 0)

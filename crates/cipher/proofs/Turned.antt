-- A word rotated by whole bytes is turned by them. Assumes nothing.
use mathlib.Core.Path.{◌≡◌, refl, ap, ap₂, ◌∙◌}
use Prim.Native.Nat.{ℕ, zero, suc, ◌+◌, ◌*◌, ◌/◌, ◌%◌, ◌^◌, ◌<◌}
use native.Mathlib.Omega.{arith}
use lib.Bits.{bit_or}
use Rattle.std.specs.Int.{w32, rotate_right}
use Rattle.std.specs.Int.Bits.{or_self}
use Rattle.std.proofs.lemmas.Grind.{or_before_shift}
use Rattle.cipher.specs.inner.Words.{turned}

-- what is shifted out on the left is what the mask would cut off
part : (h x m c : ℕ) → x * c % 2 ^ 32 ≡ x % m * c % 2 ^ 32 → bit_or h (x % m * c % 2 ^ 32) ≡ x % m * c + h → bit_or h (x * c % 2 ^ 32) ≡ h + x % m * c
part h x m c p q = ap (bit_or h) p ∙ q ∙ omega arith

pub rotated : (k x : ℕ) → k < 4 → x < 2 ^ 32 → rotate_right w32 x (8 * k) ≡ turned k x
unfolding turned
rotated zero x h l =
    let d : x / 1 ≡ x = omega arith in
    let e : x * 1 % 2 ^ 32 ≡ x = omega arith in
    ap₂ bit_or d e ∙ or_self x ∙ omega arith
rotated (suc zero) x h l =
    part (x / 256) x 256 16777216 (omega arith) (or_before_shift (x / 256) (x % 256) 16777216 (2 ^ 32) refl (omega arith) (omega arith))
rotated (suc (suc zero)) x h l =
    part (x / 65536) x 65536 65536 (omega arith) (or_before_shift (x / 65536) (x % 65536) 65536 (2 ^ 32) refl (omega arith) (omega arith))
rotated (suc (suc (suc zero))) x h l =
    part (x / 16777216) x 16777216 256 (omega arith) (or_before_shift (x / 16777216) (x % 16777216) 256 (2 ^ 32) refl (omega arith) (omega arith))
rotated (suc (suc (suc (suc k)))) x h l = absurd (omega arith)

-- The steps that the writers' proofs share. Assumes nothing.
use Prim.Native.Nat.{ℕ, ◌≤◌, ◌<◌}
use mathlib.Core.Path.{◌≡◌, refl, sym, ap, ap₂, ◌∙◌}
use mathlib.Core.List.{List}
use lib.ListN.{length}
use borrow.Author.Tests.{lt-ltb, le-ltb, eq-eqb, ne_eqb}
use Rattle.base.specs.Answers.{Writing, bytes, answer_of, out_of}
use Rattle.base.specs.declared.Written.TheVariants.{Refused}
use Rattle.fields.specs.Header.{header_byte}
use Rattle.fields.specs.declared.header.HeaderByte.{HeaderByte}
use Rattle.fields.specs.declared.header.HeaderByte.TheVariants.{Byte, Refused as NoByte}
use Rattle.contents.specs.Content.{Lent}
use Rattle.wire.specs.Run.{run_refusal, run_bytes}
use Rattle.wire.specs.declared.run.Run.{Run}
use Rattle.links.specs.Write.{prefixed, with_mic}
use Rattle.links.proofs.Steps.{Outcome}
use Rattle.packets.specs.Write.{behind, payload_wire, kinds_in, mesh_frame, lora_frame}
use Rattle.packets.specs.declared.mesh.MeshPacket.{MeshPacket}
use Rattle.packets.proofs.Laws.{message_strange, message_known}

module _ (s : Lent) (p : MeshPacket) (k : ℕ) (known : k ≡ kinds_in s p) where
  -- 29
  pub kinds_refused : (o : List ℕ) → (k ≡ 0 → ⊥) → Outcome (Refused k) o (mesh_frame s p) o
  unfolding mesh_frame with_mic answer_of out_of
  kinds_refused o h = rw (message_strange s p k known h) (refl, refl)

  module _ (z : k ≡ 0) where
    -- 6 and 7
    pub header_refused : (n : ℕ) (o : List ℕ) → NoByte n ≡ header_byte p.mhdr → Outcome (Refused n) o (mesh_frame s p) o
    unfolding mesh_frame with_mic answer_of out_of
    header_refused n o e = rw (message_known s p k known z, ← e) (refl, refl)

    -- and otherwise what stands behind the byte
    pub header_byte_lem : (b : ℕ) (f : Writing) → Byte b ≡ header_byte p.mhdr → payload_wire s p.payload ≡ f
        → mesh_frame s p ≡ with_mic p.has_mic p.mic (prefixed b f)
    unfolding mesh_frame
    header_byte_lem b f e q =
        ap (with_mic p.has_mic p.mic) (message_known s p k known z)
        ∙ ap₂ (λ (x : HeaderByte) (y : Writing). with_mic p.has_mic p.mic (behind x y)) (sym e) q

-- a LoRa frame: outside, too long, and its bytes
module _ (k : ℕ) (s : List ℕ) (r : Run) where
  pub lora_outside : (o : List ℕ) → k ≡ run_refusal (length s) r → (k ≡ 0 → ⊥) → Outcome (Refused k) o (lora_frame s r) o
  unfolding lora_frame answer_of out_of
  lora_outside o e h = rw (← e) (simp (ne_eqb k 0 h) (refl, refl))

  pub lora_long : (o : List ℕ) → k ≡ run_refusal (length s) r → k ≡ 0 → 8192 < r.len → Outcome (Refused 5) o (lora_frame s r) o
  unfolding lora_frame answer_of out_of
  lora_long o e h l = rw (← e) (simp (eq-eqb k 0 h, lt-ltb 8192 r.len l) (refl, refl))

  pub lora_bytes : k ≡ run_refusal (length s) r → k ≡ 0 → r.len ≤ 8192 → lora_frame s r ≡ bytes (run_bytes s r)
  unfolding lora_frame
  lora_bytes e h l = rw (← e) (simp (eq-eqb k 0 h, le-ltb 8192 r.len l))

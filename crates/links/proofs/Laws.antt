-- Laws of uplink and downlink bodies: how long their heads are, that what is written is read back, and that what was read is written as the same bytes.
-- Assumes nothing.
use Prim.Native.Nat.{ℕ, ◌+◌, ◌-◌, ◌≤◌, ◌<◌}
use native.Mathlib.Omega.{arith}
use mathlib.Core.Bool.{Bool, true, false}
use mathlib.Core.Path.{◌≡◌, refl, sym, ap, ap₂, ◌∙◌}
use mathlib.Core.List.{List, [], ◌∷◌, ◌++◌}
use lib.Dec.{ltb}
use lib.ListN.{length, get_or, length-append, length-set}
use borrow.Author.Tests.{ltb-false}
use Rattle.base.proofs.Lists.{listed}
use Rattle.base.specs.Pick.{pick}
use Rattle.base.specs.Lists.{Bytes, from}
use Rattle.base.specs.Answers.{Writing, bytes, refused}
use Rattle.wire.specs.Number.{be_of, be_bytes}
use Rattle.wire.proofs.Laws.Number.{be_length, of_bytes, bytes_of_lem}
use Rattle.fields.specs.Signal.{even_byte, even_at, rssi_byte, snr_byte}
use Rattle.fields.specs.Meta.{id_bytes, id_refusal, after_rssi, up_of, even, up_wire, down_of, down_wire}
use Rattle.fields.specs.declared.meta.UplinkMetadata.{UplinkMetadata}
use Rattle.fields.specs.declared.meta.DownlinkMetadata.{DownlinkMetadata}
use Rattle.fields.proofs.Laws.Bytes.{none, ◌▸◌, small}
use Rattle.base.proofs.Answers.{unless_bytes}
use Rattle.fields.proofs.Laws.Signal.{even_other}
use Rattle.fields.proofs.Laws.Meta.{signals, up_back, up_again, up_even, down_back, down_again}
use Rattle.wire.specs.Run.{run_refusal, run_bytes}
use Rattle.links.specs.Read.{four_at, uplink_at, even_uplink, downlink_at}
use Rattle.links.specs.Write.{followed, with_run, uplink_head, downlink_head}
use Rattle.wire.specs.declared.run.Run.{Run}
use Rattle.links.specs.declared.uplink.UplinkPayload.{UplinkPayload}
use Rattle.links.specs.declared.uplink.UplinkRead.TheVariants.{Payload as AnUplink}
use Rattle.links.specs.declared.downlink.DownlinkPayload.{DownlinkPayload}
use Rattle.links.specs.declared.downlink.DownlinkRead.TheVariants.{Payload as ADownlink}
use Rattle.links.proofs.Steps.{uplink_is, downlink_is}

-- ---- what a frame of bytes came of

pub followed_bytes : (f : Writing) (v w : List ℕ) → followed f v ≡ bytes w → (u : List ℕ) × (f ≡ bytes u) × (w ≡ u ++ v)
followed_bytes (bytes u) v w e = (u, refl, cc)
followed_bytes (refused n) v w e = let z : ◌≡◌ {A = ℕ} 0 1 = cc in absurd (omega arith)

-- a run that is written lies in the slice, behind a head that is accepted
pub run_bytes_lem : (s : List ℕ) (r : Run) (f : Writing) (w : List ℕ) → with_run s r f ≡ bytes w
    → (run_refusal (length s) r ≡ 0) × (u : List ℕ) × (f ≡ bytes u) × (w ≡ u ++ run_bytes s r)
run_bytes_lem s r f w e =
    let a = unless_bytes (run_refusal (length s) r) (followed f (run_bytes s r)) w e in
    let g = followed_bytes f (run_bytes s r) w a.1 in
    (a.0, g.0, g.1, g.2)

-- ---- lengths

pub up_length : (m : UplinkMetadata) (w : List ℕ) → up_wire m ≡ bytes w → length w ≡ 5
unfolding up_wire
up_length m w e =
    let a = id_bytes m.uplink_id m.dr in
    let z = m.channel ∷ [] in
    let s = snr_byte m.snr in
    let r = rssi_byte m.rssi in
    ap length (signals a z s r w (unless_bytes (id_refusal m.uplink_id m.dr) (after_rssi a z s r) w e).1).bytes_are

pub down_length : (m : DownlinkMetadata) (w : List ℕ) → down_wire m ≡ bytes w → length w ≡ 6
down_length m w e = (down_back m w e).0

-- four bytes behind n
pub with_four : (u w : List ℕ) (v n : ℕ) → w ≡ u ++ be_bytes 4 v → length u ≡ n → length w ≡ n + 4
with_four u w v n e h = let b = be_length 4 v in ap length e ∙ length-append u (be_bytes 4 v) ∙ omega arith

pub uplink_length : (p : UplinkPayload) (w : List ℕ) → uplink_head p ≡ bytes w → length w ≡ 9
unfolding uplink_head
uplink_length p w e =
    let g = followed_bytes (up_wire p.metadata) (be_bytes 4 p.relay_id) w e in
    with_four g.0 w p.relay_id 5 g.2 (up_length p.metadata g.0 g.1)

pub downlink_length : (p : DownlinkPayload) (w : List ℕ) → downlink_head p ≡ bytes w → length w ≡ 10
unfolding downlink_head
downlink_length p w e =
    let g = followed_bytes (down_wire p.metadata) (be_bytes 4 p.relay_id) w e in
    with_four g.0 w p.relay_id 6 g.2 (down_length p.metadata g.0 g.1)

-- ---- reading what was written: without odd bits

-- four bytes by their index, and what they are
pub four : (v : ℕ) → from 4 0 (λ i. get_or (be_bytes 4 v) i 0) ≡ be_bytes 4 v
four v = listed 4 (be_bytes 4 v) (be_length 4 v)

pub four_is : (v : ℕ) → v < 4294967296 → be_of (from 4 0 (λ i. get_or (be_bytes 4 v) i 0)) ≡ v
four_is v h = ap be_of (four v) ∙ of_bytes 4 v h

-- a head of n bytes and four, by their index
pub spelt : (n : ℕ) (u : List ℕ) (v : ℕ) → length u ≡ n → u ++ be_bytes 4 v ≡ from n 0 (λ i. get_or u i 0) ++ from 4 0 (λ i. get_or (be_bytes 4 v) i 0)
spelt n u v h = ap₂ {B = List ℕ} (λ (x y : List ℕ). x ++ y) (sym (listed n u h)) (sym (four v))

pub uplink_read_back : (p : UplinkPayload) (h v : List ℕ) (at : ℕ) → uplink_head p ≡ bytes h → p.metadata.channel < 256 → p.relay_id < 4294967296 → length v ≤ 8178
    → uplink_at at (h ++ v) ≡ AnUplink (record { metadata = even p.metadata; relay_id = p.relay_id; phy_payload = record { start = 9 + at; len = length v } })
unfolding uplink_head
uplink_read_back p h v at e hc hr hv =
    let g = followed_bytes (up_wire p.metadata) (be_bytes 4 p.relay_id) h e in
    let u = g.0 in
    let k = up_back p.metadata u hc g.1 in
    let r = be_bytes 4 p.relay_id in
    let b = from 5 0 (λ i. get_or u i 0) ++ from 4 0 (λ i. get_or r i 0) ++ v in
    let l : length b - 9 ≡ length v = omega arith in
    ap (λ (x : List ℕ). uplink_at at (x ++ v)) (g.2 ∙ spelt 5 u p.relay_id k.0)
    ∙ sym (uplink_is at b (omega arith) (omega arith) (even p.metadata) p.relay_id (sym (ap up_of (listed 5 u k.0) ∙ k.2)) (sym (four_is p.relay_id hr)))
    ∙ ap (λ (n : ℕ). AnUplink (record { metadata = even p.metadata; relay_id = p.relay_id; phy_payload = record { start = 9 + at; len = n } })) l

pub downlink_read_back : (p : DownlinkPayload) (h v : List ℕ) (at : ℕ) → downlink_head p ≡ bytes h → p.relay_id < 4294967296 → length v ≤ 8177
    → downlink_at at (h ++ v) ≡ ADownlink (record { metadata = p.metadata; relay_id = p.relay_id; phy_payload = record { start = 10 + at; len = length v } })
unfolding downlink_head
downlink_read_back p h v at e hr hv =
    let g = followed_bytes (down_wire p.metadata) (be_bytes 4 p.relay_id) h e in
    let u = g.0 in
    let k = down_back p.metadata u g.1 in
    let r = be_bytes 4 p.relay_id in
    let b = from 6 0 (λ i. get_or u i 0) ++ from 4 0 (λ i. get_or r i 0) ++ v in
    let l : length b - 10 ≡ length v = omega arith in
    ap (λ (x : List ℕ). downlink_at at (x ++ v)) (g.2 ∙ spelt 6 u p.relay_id k.0)
    ∙ sym (downlink_is at b (omega arith) (omega arith) p.metadata p.relay_id (sym (ap down_of (listed 6 u k.0) ∙ k.2)) (sym (four_is p.relay_id hr)))
    ∙ ap (λ (n : ℕ). ADownlink (record { metadata = p.metadata; relay_id = p.relay_id; phy_payload = record { start = 10 + at; len = n } })) l

-- ---- writing what was read

-- neither of two refusals was picked
pub third : {A : Type 0} (s t : Bool) (x y z w : A) → (x ≡ w → ⊥) → (y ≡ w → ⊥) → pick s x (pick t y z) ≡ w → (s ≡ false) × (t ≡ false) × (z ≡ w)
third true t x y z w hx hy e = absurd (hx e)
third false true x y z w hx hy e = absurd (hy e)
third false false x y z w hx hy e = (refl, refl, e)

module _ (at : ℕ) (b : List ℕ) where
  pub record UplinkIs (p : UplinkPayload) : Type 0 where
    pub most : length b ≤ 8187
    pub least : 9 ≤ length b
    pub meta_is : p.metadata ≡ up_of (get_or b 0 0 ∷ get_or b 1 0 ∷ get_or b 2 0 ∷ get_or b 3 0 ∷ get_or b 4 0 ∷ [])
    pub relay_is : p.relay_id ≡ four_at b 5
    pub run_is : p.phy_payload ≡ record { start = 9 + at; len = length b - 9 }

  pub uplink_was : (p : UplinkPayload) → uplink_at at b ≡ AnUplink p → UplinkIs p
  unfolding uplink_at
  uplink_was p e =
      let t = third (ltb 8187 (length b)) (ltb (length b) 9) _ _ _ (AnUplink p) (λ q. let z : ◌≡◌ {A = ℕ} 0 1 = cc in omega arith) (λ q. let z : ◌≡◌ {A = ℕ} 0 1 = cc in omega arith) e in
      record { most = ltb-false _ _ t.0; least = ltb-false _ _ t.1; meta_is = cc; relay_is = cc; run_is = cc }

  -- without its odd bits a body is read alike, but for them
  pub uplink_even : (p : UplinkPayload) → uplink_at at b ≡ AnUplink p → uplink_at at (even_at b 3) ≡ AnUplink (even_uplink p)
  uplink_even p e =
      let w = uplink_was p e in
      let l = w.least in
      let c = even_at b 3 in
      let n : length c ≡ length b = length-set b 3 (even_byte (get_or b 3 0)) in
      let o = even_other b 3 in
      let r : p.relay_id ≡ four_at c 5 = rw (o 5 (λ z. omega arith), o 6 (λ z. omega arith), o 7 (λ z. omega arith), o 8 (λ z. omega arith)) w.relay_is in
      sym (uplink_is at c (rw n w.most) (rw n l) (even p.metadata) p.relay_id (ap even w.meta_is ∙ sym (up_even b (omega arith))) r)
      ∙ ap (λ (x : Run). AnUplink (record { metadata = even p.metadata; relay_id = p.relay_id; phy_payload = x }))
      (ap (λ (k : ℕ). record { start = 9 + at; len = k - 9 }) n ∙ sym w.run_is)

  -- the same bytes, the odd bits cleared
  pub uplink_again : (p : UplinkPayload) → Bytes b → uplink_at at b ≡ AnUplink p
      → uplink_head p ≡ bytes (get_or b 0 0 ∷ get_or b 1 0 ∷ get_or b 2 0 ∷ even_byte (get_or b 3 0) ∷ get_or b 4 0 ∷ get_or b 5 0 ∷ get_or b 6 0 ∷ get_or b 7 0 ∷ get_or b 8 0 ∷ [])
  unfolding uplink_head
  uplink_again p h e =
      let w = uplink_was p e in
      ap₂ (λ (m : UplinkMetadata) (r : ℕ). followed (up_wire m) (be_bytes 4 r)) w.meta_is w.relay_is
      ∙ ap₂ followed
      (up_again (get_or b 0 0 ∷ get_or b 1 0 ∷ get_or b 2 0 ∷ get_or b 3 0 ∷ get_or b 4 0 ∷ []) refl (small (h 0 ▸ h 1 ▸ h 2 ▸ h 3 ▸ h 4 ▸ none)))
      (bytes_of_lem (get_or b 5 0 ∷ get_or b 6 0 ∷ get_or b 7 0 ∷ get_or b 8 0 ∷ []) (small (h 5 ▸ h 6 ▸ h 7 ▸ h 8 ▸ none)))

  pub record DownlinkIs (p : DownlinkPayload) : Type 0 where
    pub most : length b ≤ 8187
    pub least : 10 ≤ length b
    pub meta_is : p.metadata ≡ down_of (get_or b 0 0 ∷ get_or b 1 0 ∷ get_or b 2 0 ∷ get_or b 3 0 ∷ get_or b 4 0 ∷ get_or b 5 0 ∷ [])
    pub relay_is : p.relay_id ≡ four_at b 6
    pub run_is : p.phy_payload ≡ record { start = 10 + at; len = length b - 10 }

  pub downlink_was : (p : DownlinkPayload) → downlink_at at b ≡ ADownlink p → DownlinkIs p
  unfolding downlink_at
  downlink_was p e =
      let t = third (ltb 8187 (length b)) (ltb (length b) 10) _ _ _ (ADownlink p) (λ q. let z : ◌≡◌ {A = ℕ} 0 1 = cc in omega arith) (λ q. let z : ◌≡◌ {A = ℕ} 0 1 = cc in omega arith) e in
      record { most = ltb-false _ _ t.0; least = ltb-false _ _ t.1; meta_is = cc; relay_is = cc; run_is = cc }

  pub downlink_again : (p : DownlinkPayload) → Bytes b → downlink_at at b ≡ ADownlink p → downlink_head p ≡ bytes (from 10 0 (λ i. get_or b i 0))
  unfolding downlink_head
  downlink_again p h e =
      let w = downlink_was p e in
      ap₂ (λ (m : DownlinkMetadata) (r : ℕ). followed (down_wire m) (be_bytes 4 r)) w.meta_is w.relay_is
      ∙ ap₂ followed
      (down_again (get_or b 0 0 ∷ get_or b 1 0 ∷ get_or b 2 0 ∷ get_or b 3 0 ∷ get_or b 4 0 ∷ get_or b 5 0 ∷ []) refl (small (h 0 ▸ h 1 ▸ h 2 ▸ h 3 ▸ h 4 ▸ h 5 ▸ none)))
      (bytes_of_lem (get_or b 6 0 ∷ get_or b 7 0 ∷ get_or b 8 0 ∷ get_or b 9 0 ∷ []) (small (h 6 ▸ h 7 ▸ h 8 ▸ h 9 ▸ none)))

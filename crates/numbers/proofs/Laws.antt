-- The packet that numbers stand for, a test at a time; and what is made of a packet gives that packet back. Assumes nothing.
use Prim.Native.Nat.{ℕ, ◌≤◌, ◌<◌}
use native.Mathlib.Omega.{arith}
use mathlib.Core.Bool.{Bool, true, false, not}
use mathlib.Core.Path.{◌≡◌, refl, sym, ap, ap₂, ◌∙◌}
use mathlib.Core.List.{List}
use lib.Dec.{ltb, eqb}
use lib.IntN.{ℤ}
use lib.ListN.{get_or}
use borrow.Author.Tests.{le-ltb, eq-eqb, ne_eqb, ltb-true}
use Rattle.base.specs.Pick.{pick}
use Rattle.base.specs.Numbers.{type_large}
use Rattle.base.specs.Answers.{refused}
use Rattle.base.specs.declared.Written.TheVariants.{Refused as No}
use Rattle.fields.specs.Limits.{mic_most, relay_id_most, channel_most, timestamp_most}
use Rattle.fields.specs.Header.{type_read, header_byte}
use Rattle.fields.specs.declared.header.PayloadType.{PayloadType}
use Rattle.fields.specs.declared.header.HeaderByte.{HeaderByte}
use Rattle.fields.specs.declared.header.HeaderByte.TheVariants.{Byte, Refused as NoByte}
use Rattle.fields.specs.declared.header.PayloadType.TheVariants.{Uplink}
use Rattle.fields.specs.declared.header.TypeRead.TheVariants.{Kind, Refused as NoKind}
use Rattle.contents.specs.Content.{Lent}
use Rattle.links.specs.Write.{prefixed, with_mic, uplink_wire}
use Rattle.links.specs.declared.uplink.UplinkPayload.{UplinkPayload}
use Rattle.links.proofs.Steps.{Outcome, refuses, same_frame}
use Rattle.packets.specs.Read.{of_mesh}
use Rattle.packets.specs.Write.{payload_wire, payload_kinds, mesh_frame, packet_frame}
use Rattle.packets.specs.declared.mesh.Payload.{Payload}
use Rattle.packets.specs.declared.mesh.Payload.TheVariants.{Uplink as AnUplink}
use Rattle.packets.specs.declared.mesh.MeshPacket.{MeshPacket}
use Rattle.packets.proofs.Steps.{header_refused, header_byte_lem}
use Rattle.packets.specs.declared.mesh.MeshRead.TheVariants.{Mesh, Refused}
use Rattle.packets.specs.declared.any.Packet.TheVariants.{Lora}
use Rattle.packets.specs.declared.any.PacketRead.TheVariants.{Packet as PacketIs, Refused as NoPacket}
use Rattle.numbers.specs.Numbers.{at_most, too_wide, strange_content, run_from, uplink_from, payload_from, kind_by, typed_by, mesh_from, packet_from, if_packet, numbers_frame}

pub no_type : (n : ℕ) → 3 < n → type_read n ≡ NoKind type_large
unfolding type_read
no_type n h = simp (ne_eqb n 0 (λ e. omega arith), ne_eqb n 1 (λ e. omega arith), ne_eqb n 2 (λ e. omega arith), ne_eqb n 3 (λ e. omega arith))

pub type_most_lem : (n : ℕ) → type_read (at_most 255 n) ≡ type_read n
unfolding at_most
type_most_lem n = by (ltb 255 n) refl where
  by : (t : Bool) → ltb 255 n ≡ t → type_read (pick t 255 n) ≡ type_read n
  by true h = let k : 255 < n = ltb-true 255 n h in no_type 255 (omega arith) ∙ sym (no_type n (omega arith))
  by false h = refl

pub wide_last : (ns : List ℕ) → get_or ns 4 0 ≤ mic_most → get_or ns 5 0 ≤ relay_id_most → get_or ns 6 0 ≤ 65535 → get_or ns 8 0 ≤ channel_most
    → too_wide ns ≡ ltb timestamp_most (get_or ns 12 0)
unfolding too_wide
wide_last ns a b c d = simp (le-ltb mic_most (get_or ns 4 0) a, le-ltb relay_id_most (get_or ns 5 0) b, le-ltb 65535 (get_or ns 6 0) c, le-ltb channel_most (get_or ns 8 0) d)

module _ (ns : List ℕ) (r z : ℤ) (b : Bool) (e : b ≡ too_wide ns) where
  pub mesh_wide : b ≡ true → mesh_from ns r z ≡ Refused type_large
  unfolding mesh_from
  mesh_wide h = simp (sym e ∙ h)

  pub packet_wide : b ≡ true → packet_from ns r z ≡ NoPacket type_large
  unfolding packet_from
  packet_wide h = simp (sym e ∙ h)

  module _ (g : b ≡ false) where
    pub packet_lora : get_or ns 0 0 ≡ 4 → packet_from ns r z ≡ PacketIs (Lora (run_from ns))
    unfolding packet_from
    packet_lora k = simp (sym e ∙ g, eq-eqb (get_or ns 0 0) 4 k)

    pub packet_mesh : (get_or ns 0 0 ≡ 4 → ⊥) → packet_from ns r z ≡ of_mesh (mesh_from ns r z)
    unfolding packet_from
    packet_mesh k = simp (sym e ∙ g, ne_eqb (get_or ns 0 0) 4 k)

    module _ (d : Bool) (f : d ≡ strange_content ns) where
      pub mesh_strange : d ≡ true → mesh_from ns r z ≡ Refused type_large
      unfolding mesh_from
      mesh_strange h = simp (sym e ∙ g, sym f ∙ h)

      pub mesh_known : d ≡ false → mesh_from ns r z ≡ kind_by ns r z (type_read (get_or ns 0 0))
      unfolding mesh_from
      mesh_known h = simp (sym e ∙ g, sym f ∙ h)

      pub mesh_made : d ≡ false → (kind t : PayloadType) (hops mic : ℕ) (q : Payload) → type_read (get_or ns 0 0) ≡ Kind kind → type_read (get_or ns 1 0) ≡ Kind t
          → hops ≡ at_most 255 (get_or ns 2 0) → mic ≡ at_most 4294967295 (get_or ns 4 0) → q ≡ payload_from ns r z kind
          → Mesh (record { mhdr = record { payload_type = t; hop_count = hops }; payload = q; has_mic = not (eqb (get_or ns 3 0) 0); mic = mic })
          ≡ mesh_from ns r z
      mesh_made h kind t hops mic q k w x y v =
          rw (x, y, v) (ap (typed_by ns r z kind) (sym w) ∙ ap (kind_by ns r z) (sym k) ∙ sym (mesh_known h))

    -- an uplink: no body counts
    pub uplink_mesh : get_or ns 0 0 ≡ 0 → packet_from ns r z ≡ of_mesh (typed_by ns r z Uplink (type_read (get_or ns 1 0)))
    unfolding strange_content type_read
    uplink_mesh k =
        packet_mesh (λ q. let w : ◌≡◌ {A = ℕ} 0 4 = sym k ∙ q in omega arith)
        ∙ ap of_mesh (mesh_known false (rw k refl) refl ∙ ap (λ (n : ℕ). kind_by ns r z (type_read n)) k)

-- ---- what is written of an uplink's numbers

pub numbers_refused : (l : Lent) (ns : List ℕ) (r z : ℤ) (n : ℕ) (o : List ℕ) → packet_from ns r z ≡ NoPacket n → Outcome (No n) o (numbers_frame l ns r z) o
unfolding numbers_frame
numbers_refused l ns r z n o e = refuses (numbers_frame l ns r z) n o (ap (if_packet (packet_frame l) refused) e)

module _ (l : Lent) (ns : List ℕ) (r z : ℤ) (t : PayloadType) (e : packet_from ns r z ≡ of_mesh (typed_by ns r z Uplink (Kind t))) (hops : ℕ) (h : hops ≡ at_most 255 (get_or ns 2 0)) where
  abbrev packet : MeshPacket
  packet = record {
    mhdr = record { payload_type = t; hop_count = at_most 255 (get_or ns 2 0) };
    payload = AnUplink (uplink_from ns r z);
    has_mic = not (eqb (get_or ns 3 0) 0);
    mic = at_most 4294967295 (get_or ns 4 0);
  }

  as_packet : numbers_frame l ns r z ≡ mesh_frame l packet
  unfolding numbers_frame packet_frame
  as_packet = ap (if_packet (packet_frame l) refused) e

  byte : (b : HeaderByte) → b ≡ header_byte (record { payload_type = t; hop_count = hops }) → b ≡ header_byte packet.mhdr
  byte b q = q ∙ ap (λ (x : ℕ). header_byte (record { payload_type = t; hop_count = x })) h

  pub uplink_no_byte : (n : ℕ) (o : List ℕ) → NoByte n ≡ header_byte (record { payload_type = t; hop_count = hops })
      → Outcome (No n) o (numbers_frame l ns r z) o
  unfolding payload_kinds
  uplink_no_byte n o q = same_frame _ _ _ _ _ as_packet (header_refused l packet 0 refl refl n o (byte (NoByte n) q))

  pub uplink_frame : (b : ℕ) (u : UplinkPayload) (mic : ℕ) → Byte b ≡ header_byte (record { payload_type = t; hop_count = hops })
      → u ≡ uplink_from ns r z → mic ≡ at_most 4294967295 (get_or ns 4 0)
      → numbers_frame l ns r z ≡ with_mic (not (eqb (get_or ns 3 0) 0)) mic (prefixed b (uplink_wire l.frame u))
  unfolding payload_kinds payload_wire
  uplink_frame b u mic q p m =
      as_packet ∙ header_byte_lem l packet 0 refl refl b (uplink_wire l.frame (uplink_from ns r z)) (byte (Byte b) q) refl
      ∙ ap₂ (λ (x : ℕ) (v : UplinkPayload). with_mic (not (eqb (get_or ns 3 0) 0)) x (prefixed b (uplink_wire l.frame v))) (sym m) (sym p)

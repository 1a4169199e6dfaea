-- What a reader of a body or a frame answers and leaves. Assumes nothing.
use Prim.Native.Nat.{ℕ, ◌-◌, ◌/◌, ◌≤◌, ◌<◌}
use mathlib.Core.Bool.{Bool, true}
use mathlib.Core.Path.{◌≡◌, refl, sym, ap, ◌∙◌}
use mathlib.Core.List.{List, [], ◌∷◌}
use lib.IntN.{ℤ, pos}
use lib.ListN.{length, get_or}
use borrow.Author.Tests.{lt-ltb, le-ltb, eq-eqb, ne_eqb}
use Rattle.base.specs.Answers.{number_in, left_by}
use Rattle.fields.specs.Header.{header_of, code_of}
use Rattle.fields.specs.declared.header.MHDR.{MHDR}
use Rattle.fields.specs.declared.header.PayloadType.{PayloadType}
use Rattle.fields.specs.declared.header.PayloadType.TheVariants.{Uplink, Downlink, Event, Command}
use Rattle.fields.specs.declared.header.HeaderRead.TheVariants.{Header, Refused as NoHeader}
use Rattle.contents.specs.declared.content.Held.TheVariants.{Frame as InFrame, Work as InWork}
use Rattle.contents.specs.declared.content.Content.{Content}
use Rattle.contents.specs.declared.content.Content.TheVariants.{Empty, Sealed, Open, Items}
use Rattle.links.specs.Read.{four_at, uplink_at, downlink_at}
use Rattle.links.specs.declared.uplink.UplinkRead.{UplinkRead}
use Rattle.links.specs.declared.downlink.DownlinkRead.{DownlinkRead}
use Rattle.events.specs.Read.{event_at, command_at}
use Rattle.events.specs.declared.stamped.EventRead.{EventRead}
use Rattle.events.specs.declared.stamped.CommandRead.{CommandRead}
use Rattle.packets.specs.Read.{body_in, of_uplink, of_downlink, of_event, of_command, payload_at, with_payload, with_header, mesh_of, mesh_says, of_mesh, packet_of, packet_says}
use Rattle.packets.specs.declared.mesh.PayloadRead.{PayloadRead}
use Rattle.packets.specs.declared.mesh.PayloadRead.TheVariants.{Payload as PayloadIs, Refused as NoPayload}
use Rattle.packets.specs.declared.mesh.MeshPacket.{MeshPacket}
use Rattle.packets.specs.declared.mesh.MeshRead.{MeshRead}
use Rattle.packets.specs.declared.mesh.MeshRead.TheVariants.{Mesh, Refused}
use Rattle.packets.specs.declared.any.Packet.TheVariants.{Lora}
use Rattle.packets.specs.declared.any.PacketRead.{PacketRead}
use Rattle.packets.specs.declared.any.PacketRead.TheVariants.{Packet as PacketIs, Refused as NoPacket}
use Rattle.numbers.specs.Numbers.{bit, content_place, stamped_fields, listed, mesh_numbers, mesh_rssi, mesh_snr, numbers_in, rssi_in, snr_in, body_read, around}

-- all as it was, or the numbers of a packet
abbrev pub Left : MeshRead → List ℕ → ℤ → ℤ → ℕ → List ℕ → ℤ → ℤ → Type 0
Left m xs r z n ys r' z' =
    (n ≡ number_in (mesh_says m))
    × ((ys ≡ left_by mesh_numbers xs (mesh_says m)) × ((r' ≡ left_by mesh_rssi r (mesh_says m)) × (z' ≡ left_by mesh_snr z (mesh_says m))))

pub kept : (m : MeshRead) (n : ℕ) (xs : List ℕ) (r z : ℤ) → m ≡ Refused n → Left m xs r z n xs r z
kept m n xs r z e = rw e (refl, (refl, (refl, refl)))

pub stored : (m : MeshRead) (p : MeshPacket) (xs : List ℕ) (r z : ℤ) (ys : List ℕ) (r' z' : ℤ) → m ≡ Mesh p
    → ys ≡ mesh_numbers p → r' ≡ mesh_rssi p → z' ≡ mesh_snr p → Left m xs r z 0 ys r' z'
stored m p xs r z ys r' z' e a b c = rw e (refl, (a, (b, c)))

pub same : (m m' : MeshRead) (xs : List ℕ) (r z : ℤ) (n : ℕ) (ys : List ℕ) (r' z' : ℤ) → m' ≡ m → Left m xs r z n ys r' z' → Left m' xs r z n ys r' z'
same m m' xs r z n ys r' z' e a = rw e a

-- ---- a body, by its type

module _ (h : MHDR) (has : Bool) (mic at : ℕ) (b : List ℕ) where
  abbrev whole : MeshRead
  whole = around h has mic (body_read at h.payload_type b)

  of_type : (t : PayloadType) → h.payload_type ≡ t → whole ≡ around h has mic (body_read at t b)
  of_type t e = ap (λ (x : PayloadType). around h has mic (body_read at x b)) e

  pub uplink_whole : (x : UplinkRead) → h.payload_type ≡ Uplink → x ≡ uplink_at at b → whole ≡ around h has mic (of_uplink x)
  unfolding body_read
  uplink_whole x e q = of_type Uplink e ∙ ap (λ (y : UplinkRead). around h has mic (of_uplink y)) (sym q)

  pub downlink_whole : (x : DownlinkRead) → h.payload_type ≡ Downlink → x ≡ downlink_at at b → whole ≡ around h has mic (of_downlink x)
  unfolding body_read
  downlink_whole x e q = of_type Downlink e ∙ ap (λ (y : DownlinkRead). around h has mic (of_downlink y)) (sym q)

  pub event_whole : (x : EventRead) → h.payload_type ≡ Event → x ≡ event_at at b → whole ≡ around h has mic (of_event x)
  unfolding body_read
  event_whole x e q = of_type Event e ∙ ap (λ (y : EventRead). around h has mic (of_event y)) (sym q)

  pub command_whole : (x : CommandRead) → h.payload_type ≡ Command → x ≡ command_at at b → whole ≡ around h has mic (of_command x)
  unfolding body_read
  command_whole x e q = of_type Command e ∙ ap (λ (y : CommandRead). around h has mic (of_command y)) (sym q)

-- ---- a frame

at_one : (t : PayloadType) (b : List ℕ) → payload_at t b ≡ body_read 1 t b
unfolding payload_at body_read
at_one Uplink b = refl
at_one Downlink b = refl
at_one Event b = refl
at_one Command b = refl

carried : (s : List ℕ) (h : MHDR) (x : PayloadRead) → with_payload s h x ≡ around h true (four_at s (length s - 4)) x
carried s h (PayloadIs p) = refl
carried s h (NoPayload n) = refl

module _ (s : List ℕ) where
  pub mesh_empty : length s ≡ 0 → mesh_of s ≡ Refused 1
  unfolding mesh_of
  mesh_empty e = simp (eq-eqb (length s) 0 e)

  pub empty : length s ≡ 0 → packet_of s ≡ NoPacket 1
  unfolding packet_of
  empty e = simp (eq-eqb (length s) 0 e)

  module _ (e : length s ≡ 0 → ⊥) where
    pub mesh_long : 8192 < length s → mesh_of s ≡ Refused 5
    unfolding mesh_of
    mesh_long l = simp (ne_eqb (length s) 0 e, lt-ltb 8192 (length s) l)

    pub long : 8192 < length s → packet_of s ≡ NoPacket 5
    unfolding packet_of
    long l = simp (ne_eqb (length s) 0 e, lt-ltb 8192 (length s) l)

    module _ (l : length s ≤ 8192) where
      pub mesh_short : length s < 5 → mesh_of s ≡ Refused 2
      unfolding mesh_of
      mesh_short h = simp (ne_eqb (length s) 0 e, le-ltb 8192 (length s) l, lt-ltb (length s) 5 h)

      pub lora : (get_or s 0 0 / 32 ≡ 7 → ⊥) → packet_of s ≡ PacketIs (Lora (record { start = 0; len = length s }))
      unfolding packet_of
      lora m = simp (ne_eqb (length s) 0 e, le-ltb 8192 (length s) l, ne_eqb (get_or s 0 0 / 32) 7 m)

      pub mesh : get_or s 0 0 / 32 ≡ 7 → packet_of s ≡ of_mesh (mesh_of s)
      unfolding packet_of
      mesh m = simp (ne_eqb (length s) 0 e, le-ltb 8192 (length s) l, eq-eqb (get_or s 0 0 / 32) 7 m)

      module _ (h : 5 ≤ length s) where
        by_header : mesh_of s ≡ with_header s (header_of (get_or s 0 0))
        unfolding mesh_of
        by_header = simp (ne_eqb (length s) 0 e, le-ltb 8192 (length s) l, le-ltb (length s) 5 h)

        pub no_header : (n : ℕ) → NoHeader n ≡ header_of (get_or s 0 0) → mesh_of s ≡ Refused n
        no_header n q = by_header ∙ ap (with_header s) (sym q)

        pub with_header_lem : (a : MHDR) (mic : ℕ) → Header a ≡ header_of (get_or s 0 0) → mic ≡ four_at s (length s - 4)
            → mesh_of s ≡ around a true mic (body_read 1 a.payload_type (body_in s))
        with_header_lem a mic q m =
            by_header ∙ ap (with_header s) (sym q) ∙ carried s a (payload_at a.payload_type (body_in s))
            ∙ ap (λ (x : PayloadRead). around a true (four_at s (length s - 4)) x) (at_one a.payload_type (body_in s))
            ∙ ap (λ (x : ℕ). around a true x (body_read 1 a.payload_type (body_in s))) (sym m)

-- ---- any frame

abbrev pub LeftAny : PacketRead → List ℕ → ℤ → ℤ → ℕ → List ℕ → ℤ → ℤ → Type 0
LeftAny p xs r z n ys r' z' =
    (n ≡ number_in (packet_says p))
    × ((ys ≡ left_by numbers_in xs (packet_says p)) × ((r' ≡ left_by rssi_in r (packet_says p)) × (z' ≡ left_by snr_in z (packet_says p))))

pub kept_any : (p : PacketRead) (n : ℕ) (xs : List ℕ) (r z : ℤ) → p ≡ NoPacket n → LeftAny p xs r z n xs r z
kept_any p n xs r z e = rw e (refl, (refl, (refl, refl)))

pub lora_any : (p : PacketRead) (len : ℕ) (xs : List ℕ) (r z : ℤ) → p ≡ PacketIs (Lora (record { start = 0; len = len }))
    → LeftAny p xs r z 0 (numbers_in (Lora (record { start = 0; len = len }))) (pos 0) (pos 0)
unfolding rssi_in snr_in
lora_any p len xs r z e = rw e (refl, (refl, (refl, refl)))

pub mesh_any : (p : PacketRead) (m : MeshRead) (xs : List ℕ) (r z : ℤ) (n : ℕ) (ys : List ℕ) (r' z' : ℤ) → p ≡ of_mesh m
    → Left m xs r z n ys r' z' → LeftAny p xs r z n ys r' z'
unfolding numbers_in rssi_in snr_in
mesh_any p (Mesh q) xs r z n ys r' z' e a = rw e a
mesh_any p (Refused k) xs r z n ys r' z' e a = rw e a

-- ---- the numbers of an event or a command

three : (b : Content) → get_or (content_place b) 0 0 ∷ get_or (content_place b) 1 0 ∷ get_or (content_place b) 2 0 ∷ [] ≡ content_place b
three Empty = refl
three (Sealed r) = refl
three (Open InFrame r) = refl
three (Open InWork r) = refl
three (Items n) = refl

pub stamped_is : (kind : ℕ) (h : MHDR) (has : Bool) (mic relay time : ℕ) (b : Content) (t f : ℕ) (p : List ℕ) → t ≡ code_of h.payload_type → f ≡ bit has
    → p ≡ content_place b
    → kind ∷ t ∷ h.hop_count ∷ f ∷ mic ∷ relay ∷ 0 ∷ 0 ∷ 0 ∷ 0 ∷ 0 ∷ 0 ∷ time ∷ get_or p 0 0 ∷ get_or p 1 0 ∷ get_or p 2 0 ∷ 0 ∷ []
    ≡ listed kind h has mic (stamped_fields relay time) (content_place b) 0
stamped_is kind h has mic relay time b t f p x y e =
    rw (x, y, e) (ap (λ (l : List ℕ). listed kind h has mic (stamped_fields relay time) l 0) (three b))

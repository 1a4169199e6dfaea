-- Laws of a frame's text: its parts laid one behind the other, what the packet reader's answer makes of it, how long it is, and lines of hex.
-- Assumes nothing.
use Prim.Native.Nat.{ℕ, ◌+◌, ◌-◌, ◌/◌, ◌%◌, ◌≤◌, ◌<◌}
use native.Mathlib.Omega.{arith}
use mathlib.Core.Path.{◌≡◌, refl, sym, ap, ◌∙◌}
use mathlib.Core.Bool.{Bool, true, false, not, false≢true}
use mathlib.Core.List.{List, [], ◌∷◌, ◌++◌, append-nil}
use lib.Dec.{ltb, leb, eqb}
use lib.ListN.{length, take, drop, replicate, get_or, length-append, length-replicate}
use lib.Seq.{take-append_seam}
use borrow.Author.Tests.{lt-ltb, le-ltb, ltb-false, lt-leb, leb-true, eq-eqb, ne_eqb, eqb-true, eqb-false}
use Rattle.base.specs.Pick.{pick}
use Rattle.base.specs.Lists.{Bytes}
use Rattle.base.specs.Numbers.{frame_empty, frame_short, frame_long, not_mesh, frame_most}
use Rattle.base.specs.Answers.{bytes}
use Rattle.base.specs.declared.Written.TheVariants.{Bytes as Wrote, Refused}
use Rattle.base.proofs.Answers.{room, no_room}
use Rattle.wire.specs.Lay.{put}
use Rattle.wire.specs.Part.{part_of}
use Rattle.wire.specs.Number.{be_bytes}
use Rattle.wire.specs.Hex.{unhex, hex_text}
use Rattle.wire.proofs.Laws.Lay.{put_fits, put_front, put_length, put_whole, two_puts}
use Rattle.wire.proofs.Laws.Hex.{hex_length, hex_all, hex_back, unhex_length}
use Rattle.fields.specs.Header.{header_of}
use Rattle.fields.specs.declared.header.MHDR.{MHDR}
use Rattle.fields.specs.declared.header.PayloadType.{PayloadType}
use Rattle.fields.specs.declared.header.PayloadType.TheVariants.{Uplink, Downlink, Event, Command}
use Rattle.fields.proofs.Laws.Header.{marked, not_marked}
use Rattle.links.proofs.Steps.{Outcome}
use Rattle.packets.specs.Read.{body_in, payload_at, with_payload, with_header, of_mesh, mesh_of, packet_of, odd_in, even_payload, even_mesh}
use Rattle.packets.specs.declared.mesh.Payload.{Payload}
use Rattle.packets.specs.declared.mesh.Payload.TheVariants.{Uplink as AnUplink, Downlink as ADownlink, Event as AnEvent, Command as ACommand}
use Rattle.packets.specs.declared.mesh.PayloadRead.{PayloadRead}
use Rattle.packets.specs.declared.mesh.PayloadRead.TheVariants.{Payload as PayloadIs, Refused as NoPayload}
use Rattle.packets.specs.declared.mesh.MeshRead.{MeshRead}
use Rattle.packets.specs.declared.mesh.MeshRead.TheVariants as mesh
use Rattle.packets.specs.declared.mesh.MeshPacket.{MeshPacket}
use Rattle.packets.specs.declared.any.Packet.TheVariants.{Lora}
use Rattle.packets.specs.declared.any.PacketRead.{PacketRead}
use Rattle.packets.specs.declared.any.PacketRead.TheVariants.{Packet as PacketIs, Refused as NoPacket}
use Rattle.wire.specs.declared.run.Run.{Run}
use Rattle.dump.proofs.Laws.Decimal.{decimal_most, decimal_byte}
use Rattle.dump.specs.Ascii.{ascii}
use Rattle.dump.specs.Dump.{decimal, four_text, label_of, is_told, odd_text, line_of, mic_text, payload_text, mesh_text, with_number, refused_text, read_text, frame_text, bad_hex, line_text}

-- ---- parts laid one behind the other

pub put_kept : (x y v : List ℕ) (n : ℕ) → y ≡ put x n v → length y ≡ length x
put_kept x y v n e = ap length e ∙ put_length x n v

-- w lies at the front of o, and n is the next place
record Laid (o w x : List ℕ) (n : ℕ) : Type 0 where
  there : x ≡ put o 0 w
  long : n ≡ length w

laid_first : (o w : List ℕ) {x : List ℕ} {n : ℕ} → x ≡ put o 0 w → n ≡ length w → Laid o w x n
laid_first o w e l = record { there = e; long = l }

laid_more : {o w x : List ℕ} {n : ℕ} → Laid o w x n → (v : List ℕ) {y : List ℕ} (k : ℕ) → y ≡ put x n v → k ≡ length v → n + k ≤ length o → Laid o (w ++ v) y (n + k)
laid_more {o} {w} {x} {n} l v k e q h =
    let a = length-append w v in
    let b = l.long in
    record { there = e ∙ rw l.there (two_puts o w v n (sym b) (omega arith)); long = omega arith }

laid_done : {o w x : List ℕ} {n : ℕ} → Laid o w x n → n ≤ length o → Outcome (Wrote n) x (bytes w) o
laid_done {o} {w} {x} {n} l h =
    let b = l.long in
    let g : length w ≤ length o = omega arith in
    (ap Wrote b ∙ sym (room w o g).0, l.there ∙ put_front o w g)

too_short : (w o : List ℕ) → length o < length w → Outcome (Refused 21) o (bytes w) o
too_short w o h = (sym (no_room w o h).0, sym (no_room w o h).1)

module _ (word o : List ℕ) (n k : ℕ) (e : k ≡ length (decimal n)) where
  pub counted_short : length o < length word + k → Outcome (Refused 21) o (bytes (with_number word n)) o
  counted_short h = let a = length-append word (decimal n) in too_short (with_number word n) o (omega arith)

  pub counted_laid : length word + k ≤ length o → (x y : List ℕ) → x ≡ put o 0 word → y ≡ put x (length word) (decimal n)
      → Outcome (Wrote (length word + k)) y (bytes (with_number word n)) o
  counted_laid h x y ex ey = laid_done (laid_more (laid_first o word ex refl) (decimal n) k ey e h) h

four_length : (n : ℕ) → 8 ≡ length (four_text n)
unfolding be_bytes
four_length n = sym (hex_length (be_bytes 4 n))

-- odd bits that are told, and others
module _ (n : ℕ) where
  pub told_most : is_told n ≡ true → n ≤ 3
  told_most e = by (eqb n 0) e
    where
      by : (t : Bool) → pick t false (leb n 3) ≡ true → n ≤ 3
      by true q = absurd (false≢true q)
      by false q = leb-true n 3 q

  pub odd_told : is_told n ≡ true → odd_text n ≡ ascii " odd: " ++ ((48 + n) ∷ [])
  unfolding odd_text
  odd_told e = simp e

  pub odd_untold : is_told n ≡ false → odd_text n ≡ []
  unfolding odd_text
  odd_untold e = simp e

  pub odd_large : 3 < n → odd_text n ≡ []
  odd_large l = odd_untold (simp (ne_eqb n 0 (λ z. omega arith), lt-leb n 3 l))

module _ (t : PayloadType) (hops : ℕ) (word : List ℕ) (n relay : ℕ) (tail : List ℕ) (odd : ℕ) (o : List ℕ) (a j k i : ℕ)
    (ea : a ≡ length (label_of t)) (ej : j ≡ length (decimal hops)) (ek : k ≡ length (decimal n)) (ei : i ≡ length (odd_text odd)) where
  line_length : length (line_of t hops word n relay tail odd) ≡ a + j + length word + k + 12 + 8 + length tail + i + 1
  unfolding line_of
  line_length = simp (length-append, ← four_length relay) (omega arith)

  pub line_short : length o < a + j + length word + k + 12 + 8 + length tail + i + 1 → Outcome (Refused 21) o (bytes (line_of t hops word n relay tail odd)) o
  line_short h = let l = line_length in too_short (line_of t hops word n relay tail odd) o (omega arith)

  pub line_laid : a + j + length word + k + 12 + 8 + length tail + i + 1 ≤ length o → {x1 x2 x3 x4 x5 x6 x7 x8 x9 : List ℕ}
      → x1 ≡ put o 0 (label_of t)
      → x2 ≡ put x1 a (decimal hops)
      → x3 ≡ put x2 (a + j) word
      → x4 ≡ put x3 (a + j + length word) (decimal n)
      → x5 ≡ put x4 (a + j + length word + k) (ascii ", relay_id: ")
      → x6 ≡ put x5 (a + j + length word + k + 12) (four_text relay)
      → x7 ≡ put x6 (a + j + length word + k + 12 + 8) tail
      → x8 ≡ put x7 (a + j + length word + k + 12 + 8 + length tail) (odd_text odd)
      → x9 ≡ put x8 (a + j + length word + k + 12 + 8 + length tail + i) (ascii "]")
      → Outcome (Wrote (a + j + length word + k + 12 + 8 + length tail + i + 1)) x9 (bytes (line_of t hops word n relay tail odd)) o
  unfolding line_of
  line_laid h e1 e2 e3 e4 e5 e6 e7 e8 e9 =
      let l1 = laid_first o (label_of t) e1 ea in
      let l2 = laid_more l1 (decimal hops) j e2 ej (omega arith) in
      let l3 = laid_more l2 word (length word) e3 refl (omega arith) in
      let l4 = laid_more l3 (decimal n) k e4 ek (omega arith) in
      let l5 = laid_more l4 (ascii ", relay_id: ") 12 e5 refl (omega arith) in
      let l6 = laid_more l5 (four_text relay) 8 e6 (four_length relay) (omega arith) in
      let l7 = laid_more l6 tail (length tail) e7 refl (omega arith) in
      let l8 = laid_more l7 (odd_text odd) i e8 ei (omega arith) in
      laid_done (laid_more l8 (ascii "]") 1 e9 refl h) h

-- the MIC and its word fill fifteen bytes
tail_long : (mic : ℕ) → length (ascii ", mic: " ++ four_text mic) ≡ 15
tail_long mic = let l = length-append (ascii ", mic: ") (four_text mic) in let f = four_length mic in omega arith

pub mic_tail : (has : Bool) (mic : ℕ) (x y : List ℕ) → not has ≡ false → x ≡ put (replicate 15 0) 0 (ascii ", mic: ") → y ≡ put x 7 (four_text mic)
    → ascii ", mic: " ++ mic_text has mic ≡ y
mic_tail true mic x y h ex ey =
    let q = tail_long mic in
    sym (ey ∙ rw ex (two_puts (replicate 15 0) (ascii ", mic: ") (four_text mic) 7 refl (omega arith)) ∙ put_whole (replicate 15 0) (ascii ", mic: " ++ four_text mic) q)
mic_tail false mic x y h ex ey = absurd (let z : ◌≡◌ {A = ℕ} 0 1 = cc in omega arith)

-- ---- odd bits

-- at the end, inside the bracket, and nothing else of a text goes by them
abbrev OddInside : List ℕ → List ℕ → ℕ → Type 0
OddInside even text odd = (front : List ℕ) × (even ≡ front ++ ascii "]") × (text ≡ front ++ odd_text odd ++ ascii "]")

line_odd : (t : PayloadType) (hops : ℕ) (word : List ℕ) (n relay : ℕ) (tail : List ℕ) (odd : ℕ)
    → OddInside (line_of t hops word n relay tail 0) (line_of t hops word n relay tail odd) odd
unfolding line_of
line_odd t hops word n relay tail odd =
    let front = label_of t ++ decimal hops ++ word ++ decimal n ++ ascii ", relay_id: " ++ four_text relay ++ tail in
    (front, ap (λ (x : List ℕ). front ++ x ++ ascii "]") (odd_untold 0 refl) ∙ ap (λ (x : List ℕ). x ++ ascii "]") (append-nil front), refl)

payload_odd : (t : PayloadType) (hops : ℕ) (has : Bool) (mic : ℕ) (q : Payload)
    → OddInside (payload_text t hops has mic (even_payload q)) (payload_text t hops has mic q) (odd_in q)
payload_odd t hops has mic (AnUplink p) = line_odd t hops _ _ _ _ p.metadata.odd
payload_odd t hops has mic (ADownlink p) = line_odd t hops _ _ _ _ 0
payload_odd t hops has mic (AnEvent p) = line_odd t hops _ _ _ _ 0
payload_odd t hops has mic (ACommand p) = line_odd t hops _ _ _ _ 0

pub odd_inside : (p : MeshPacket) → (front : List ℕ) × (mesh_text (even_mesh p) ≡ front ++ ascii "]") × (mesh_text p ≡ front ++ odd_text (odd_in p.payload) ++ ascii "]")
unfolding mesh_text
odd_inside p = payload_odd p.mhdr.payload_type p.mhdr.hop_count p.has_mic p.mic p.payload

-- ---- what was read

pub text_of : (s : List ℕ) (r : PacketRead) → r ≡ packet_of s → frame_text s ≡ read_text r
unfolding frame_text
text_of s r e = ap read_text (sym e)

mesh_no_lora : (m : MeshRead) (r : Run) → PacketIs (Lora r) ≡ of_mesh m → ⊥
mesh_no_lora (mesh.Mesh p) r e = let z : ◌≡◌ {A = ℕ} 0 1 = cc in omega arith
mesh_no_lora (mesh.Refused n) r e = let z : ◌≡◌ {A = ℕ} 0 1 = cc in omega arith

-- a LoRa frame is no longer than any frame
pub lora_most : (s : List ℕ) (r : Run) → PacketIs (Lora r) ≡ packet_of s → r.len ≤ 8192
unfolding packet_of
lora_most s r e = by (eqb (length s) 0) (ltb 8192 (length s)) refl (eqb (get_or s 0 0 / 32) 7) e
  where
    by : (x y : Bool) → ltb 8192 (length s) ≡ y → (z : Bool)
        → PacketIs (Lora r) ≡ pick x (NoPacket 1) (pick y (NoPacket 5) (pick z (of_mesh (mesh_of s)) (PacketIs (Lora (record { start = 0; len = length s })))))
        → r.len ≤ 8192
    by true y q z e = absurd (let z : ◌≡◌ {A = ℕ} 0 1 = cc in omega arith)
    by false true q z e = absurd (let z : ◌≡◌ {A = ℕ} 0 1 = cc in omega arith)
    by false false q true e = absurd (mesh_no_lora (mesh_of s) r e)
    by false false q false e =
        let h : length s ≤ 8192 = ltb-false _ _ q in
        let p : r ≡ record { start = 0; len = length s } = cc in
        rw p h

-- ---- how long a text is at most

label_most : (t : PayloadType) → length (label_of t) ≤ 21
unfolding label_of
label_most Uplink = omega arith
label_most Downlink = omega arith
label_most Event = omega arith
label_most Command = omega arith

odd_most_lem : (odd : ℕ) → length (odd_text odd) ≤ 7
unfolding odd_text
odd_most_lem odd = by (is_told odd)
  where
    by : (t : Bool) → length (pick t (ascii " odd: " ++ ((48 + odd) ∷ [])) []) ≤ 7
    by true = omega arith
    by false = omega arith

line_most : (t : PayloadType) (hops : ℕ) (word : List ℕ) (n relay : ℕ) (tail : List ℕ) (odd : ℕ) → hops ≤ 255 → length word ≤ 13 → length tail ≤ 15
    → length (line_of t hops word n relay tail odd) ≤ 90
line_most t hops word n relay tail odd f h g =
    let l = line_length t hops word n relay tail odd word _ _ _ _ refl refl refl refl in
    let o = odd_most_lem odd in
    let a = label_most t in
    let b = decimal_byte hops f in
    let c = decimal_most n in
    omega arith

tail_most : (has : Bool) (mic : ℕ) → length (ascii ", mic: " ++ mic_text has mic) ≤ 15
tail_most true mic = let q = tail_long mic in omega arith
tail_most false mic = omega arith

payload_most_lem : (t : PayloadType) (hops : ℕ) (has : Bool) (mic : ℕ) (p : Payload) → hops ≤ 255 → length (payload_text t hops has mic p) ≤ 90
payload_most_lem t hops has mic (AnUplink p) f = line_most t hops _ _ _ _ _ f (omega arith) (tail_most has mic)
payload_most_lem t hops has mic (ADownlink p) f = line_most t hops _ _ _ _ _ f (omega arith) (tail_most has mic)
payload_most_lem t hops has mic (AnEvent p) f = line_most t hops _ _ _ _ _ f (omega arith) (omega arith)
payload_most_lem t hops has mic (ACommand p) f = line_most t hops _ _ _ _ _ f (omega arith) (omega arith)

pub mesh_text_most : (p : MeshPacket) → p.mhdr.hop_count ≤ 255 → length (mesh_text p) ≤ 90
unfolding mesh_text
mesh_text_most p f = payload_most_lem _ _ _ _ p.payload f

number_most : (word : List ℕ) (n : ℕ) → length word ≤ 8 → length (with_number word n) ≤ 90
number_most word n h = let b = decimal_most n in simp length-append (omega arith)

refused_most : (n : ℕ) → length (refused_text n) ≤ 90
refused_most n = number_most (ascii "refused ") n (omega arith)

-- a count that is read has one digit
module _ (s : List ℕ) where
  by_payload : (h : MHDR) → h.hop_count ≤ 255 → (q : PayloadRead) → length (read_text (of_mesh (with_payload s h q))) ≤ 90
  by_payload h f (PayloadIs p) = mesh_text_most _ f
  by_payload h f (NoPayload n) = refused_most n

  by_header : (x : ℕ) (t : Bool) → eqb (x / 32) 7 ≡ t → length (read_text (of_mesh (with_header s (header_of x)))) ≤ 90
  by_header x true e =
      let m = marked x (eqb-true _ _ e) in
      let h : MHDR = record { payload_type = m.kind; hop_count = x % 8 + 1 } in
      rw m.reads (by_payload h (omega arith) (payload_at m.kind (body_in s)))
  by_header x false e = rw (not_marked x (eqb-false _ _ e)) (refused_most not_mesh)

  mesh_most : length (read_text (of_mesh (mesh_of s))) ≤ 90
  unfolding mesh_of
  mesh_most = by (eqb (length s) 0) (ltb frame_most (length s)) (ltb (length s) 5)
    where
      by : (t u v : Bool) → length (read_text (of_mesh (pick t (mesh.Refused frame_empty) (pick u (mesh.Refused frame_long) (pick v (mesh.Refused frame_short) (with_header s (header_of (get_or s 0 0)))))))) ≤ 90
      by true u v = refused_most frame_empty
      by false true v = refused_most frame_long
      by false false true = refused_most frame_short
      by false false false = by_header (get_or s 0 0) (eqb (get_or s 0 0 / 32) 7) refl

  pub frame_text_most : length (frame_text s) ≤ 90
  unfolding frame_text packet_of
  frame_text_most = by (eqb (length s) 0) (ltb frame_most (length s)) (eqb (get_or s 0 0 / 32) 7)
    where
      by : (t u v : Bool) → length (read_text (pick t (NoPacket frame_empty) (pick u (NoPacket frame_long) (pick v (of_mesh (mesh_of s)) (PacketIs (Lora (record { start = 0; len = length s }))))))) ≤ 90
      by true u v = refused_most frame_empty
      by false true v = refused_most frame_long
      by false false true = mesh_most
      by false false false = number_most (ascii "lora ") (length s) (omega arith)

-- so that an output of 90 bytes is never too short
pub line_text_most : (s : List ℕ) → length (line_text s) ≤ 90
unfolding line_text
line_text_most s = by (bad_hex s)
  where
    by : (t : Bool) → length (pick t (refused_text 30) (frame_text (unhex s))) ≤ 90
    by true = refused_most 30
    by false = frame_text_most (unhex s)

-- ---- lines of hex

-- what is written in hex reads as its bytes
pub hex_line : (s : List ℕ) → Bytes s → line_text (hex_text s) ≡ frame_text s
unfolding line_text bad_hex
hex_line s h =
    let l = hex_length s in
    simp (eq-eqb (length (hex_text s) % 2) 0 (omega arith), hex_all s, hex_back s h)

module _ (s : List ℕ) where
  pub line_bad : bad_hex s ≡ true → line_text s ≡ refused_text 30
  unfolding line_text
  line_bad b = simp b

  pub line_good : bad_hex s ≡ false → line_text s ≡ frame_text (unhex s)
  unfolding line_text
  line_good b = simp b

  -- 1 where it holds nothing
  pub line_none : bad_hex s ≡ false → length s / 2 ≡ 0 → line_text s ≡ refused_text 1
  unfolding frame_text packet_of
  line_none b l =
      let n = unhex_length s in
      line_good b ∙ simp (eq-eqb (length (unhex s)) 0 (omega arith))

  -- 5 whatever it holds
  pub line_long : bad_hex s ≡ false → 8192 < length s / 2 → line_text s ≡ refused_text 5
  unfolding frame_text packet_of
  line_long b l =
      let n = unhex_length s in
      line_good b ∙ simp (ne_eqb (length (unhex s)) 0 (λ e. omega arith), lt-ltb 8192 (length (unhex s)) (omega arith))

  decoded : (o x v : List ℕ) → length s / 2 ≤ length o → x ≡ put o 0 (unhex s) → v ≡ part_of x 0 (length s / 2) → v ≡ unhex s
  unfolding part_of
  decoded o x v h e q =
      let n = unhex_length s in
      let p : 0 + length (unhex s) ≤ length o = omega arith in
      let l = put_length o 0 (unhex s) in
      q ∙ rw (e, ← n) (simp (le-ltb (length (put o 0 (unhex s))) 0 (omega arith), le-ltb (length (put o 0 (unhex s)) - 0) (length (unhex s)) (omega arith))
      (ap (take (length (unhex s))) (put_fits o 0 (unhex s) p) ∙ take-append_seam (unhex s) (drop (0 + length (unhex s)) o)))

  -- the array holds every frame that is looked at
  pub line_frame : (x v : List ℕ) → length s / 2 ≤ 8192 → x ≡ put (replicate 8192 0) 0 (unhex s) → v ≡ part_of x 0 (length s / 2) → v ≡ unhex s
  line_frame x v h = decoded (replicate 8192 0) x v (rw (length-replicate {A = ℕ} 8192 0) h)

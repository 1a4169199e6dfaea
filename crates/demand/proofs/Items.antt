-- Opening reads of a frame only its length and the run behind the relay id: two frames that agree in these open alike. Assumes nothing.
use Prim.Native.Nat.{ℕ}
use mathlib.Core.Bool.{Bool, true, false}
use mathlib.Core.Path.{◌≡◌, refl, sym, ap, ap₂, ◌∙◌}
use mathlib.Core.List.{List, []}
use lib.Dec.{ltb, eqb}
use lib.ListN.{length}
use Rattle.base.specs.Pick.{pick}
use Rattle.base.specs.Numbers.{frame_long, output_short, payload_most}
use Rattle.base.specs.Answers.{Writing, bytes, refused, out_of, unless_refused}
use Rattle.wire.specs.Run.{run_refusal, run_bytes}
use Rattle.wire.specs.declared.run.Run.{Run}
use Rattle.items.specs.Items.{pieces, opening_of, nothing}
use Rattle.key_stream.specs.Stream.{sealed_of}
use Rattle.contents.specs.Content.{held_in, payload_of}
use Rattle.contents.specs.declared.content.Held.{Held}
use Rattle.contents.specs.declared.content.Held.TheVariants.{Frame as InFrame, Work as InWork}
use Rattle.contents.specs.declared.content.Content.{Content}
use Rattle.contents.specs.declared.content.Content.TheVariants.{Empty, Open}
use Rattle.events.specs.declared.stamped.EventPayload.{EventPayload}
use Rattle.events.specs.declared.stamped.CommandPayload.{CommandPayload}
use Rattle.packets.specs.Read.{carrying, even_payload}
use Rattle.packets.specs.declared.mesh.Payload.{Payload}
use Rattle.packets.specs.declared.mesh.Payload.TheVariants.{Uplink as AnUplink, Downlink as ADownlink, Event as AnEvent, Command as ACommand}
use Rattle.packets.specs.declared.mesh.MeshPacket.{MeshPacket}
use Rattle.sealing.specs.Open.{refused_or, opened_as, seal_wire, opened_by, read_sealed, decrypt_of, work_after, decode_of}
use Rattle.sealing.specs.Seal.{event_opened, command_opened}
use Rattle.sealing.specs.Mesh.{of_event_opened, of_command_opened, mesh_decrypted, mesh_work, mesh_decoded}
use Rattle.sealing.specs.declared.content.Opened.{Opened}
use Rattle.sealing.specs.declared.content.Opened.TheVariants.{Opened as Now, AlreadyOpen, Refused}
use Rattle.sealing.specs.declared.mesh.MeshOpened.{MeshOpened}
use Rattle.sealing.specs.declared.mesh.MeshOpened.TheVariants.{Opened as MeshNow, AlreadyOpen as MeshOpen, Refused as MeshNot}
use Rattle.demand.specs.Demand.{opened_under, bytes_in, is_event, pieces_in, of_opened, decrypted, decoded}
use Rattle.demand.proofs.Edited.{Placed, nowhere, there, run_in, Lies, uplink, downlink, event, command}

-- the bytes of what an opening answers
abbrev opened : Opened → List ℕ → List ℕ → List ℕ
opened (Now b o) f k = payload_of b f k
opened AlreadyOpen f k = []
opened (Refused n) f k = []

-- f and g agree in the run r
module _ (f g : List ℕ) (r : Run) (long : length g ≡ length f) (same : run_bytes g r ≡ run_bytes f r) where
  payload_by : (b : Content) → Placed r b → (k : List ℕ) → payload_of b g k ≡ payload_of b f k
  unfolding payload_of
  payload_by _ nowhere k = refl
  payload_by _ there k = same

  module _ (key : List ℕ) (ev : Bool) (relay time : ℕ) where
    seal_same : seal_wire key ev relay time g r ≡ seal_wire key ev relay time f r
    seal_same = ap₂ (λ (n : ℕ) (v : List ℕ). unless_refused (run_refusal n r) (sealed_of key ev relay time v)) long same

    work_by : (b : Content) → Placed r b → (k : List ℕ) → work_after key ev relay time b g k ≡ work_after key ev relay time b f k
    unfolding work_after
    work_by _ nowhere k = refl
    work_by _ there k = ap (λ (x : Writing). out_of x k) seal_same

    decrypt_by : (b : Content) → Placed r b → (k : List ℕ) → decrypt_of key ev relay time b g k ≡ decrypt_of key ev relay time b f k
    unfolding decrypt_of
    decrypt_by _ nowhere k = refl
    decrypt_by _ there k = ap (λ (x : Writing). opened_by ev x k) seal_same

  decode_by : (ev : Bool) (b : Content) → Placed r b → (k : List ℕ) → decode_of ev b g k ≡ decode_of ev b f k
  unfolding decode_of read_sealed
  decode_by ev _ nowhere k = refl
  decode_by ev _ there k =
      ap₂ (λ (n : ℕ) (v : List ℕ). refused_or (run_refusal n r) (pick (ltb payload_most r.len) (Refused frame_long) (opened_as InFrame r (opening_of ev v)))) long same

  -- what is opened lies in the work buffer, or in that run
  either : (t : Bool) (x y : Opened) (k : List ℕ) → opened x g k ≡ opened x f k → opened y g k ≡ opened y f k → opened (pick t x y) g k ≡ opened (pick t x y) f k
  either true x y k hx hy = hx
  either false x y k hx hy = hy

  held_by : (h : Held) (a : Run) (t : Bool) (k : List ℕ) → run_bytes (held_in h g k) a ≡ run_bytes (held_in h f k) a
      → payload_of (pick t Empty (Open h a)) g k ≡ payload_of (pick t Empty (Open h a)) f k
  unfolding payload_of
  held_by h a true k e = refl
  held_by h a false k e = e

  in_work : (ev : Bool) (x : Writing) (k m : List ℕ) → opened (opened_by ev x k) g m ≡ opened (opened_by ev x k) f m
  unfolding opened_by
  in_work ev (refused n) k m = refl
  in_work ev (bytes v) k m =
      let a : Run = record { start = 0; len = length v } in
      either (ltb (length k) (length v)) (Refused output_short) (opened_as InWork a (opening_of ev v)) m refl (held_by InWork a (eqb (opening_of ev v).kept 0) m refl)

  decrypted_by : (key : List ℕ) (ev : Bool) (relay time : ℕ) (b : Content) → Placed r b → (k m : List ℕ)
      → opened (decrypt_of key ev relay time b f k) g m ≡ opened (decrypt_of key ev relay time b f k) f m
  unfolding decrypt_of payload_of
  decrypted_by key ev relay time _ nowhere k m = refl
  decrypted_by key ev relay time _ there k m = in_work ev (seal_wire key ev relay time f r) k m

  decoded_by : (ev : Bool) (b : Content) → Placed r b → (k m : List ℕ) → opened (decode_of ev b f k) g m ≡ opened (decode_of ev b f k) f m
  unfolding decode_of read_sealed payload_of
  decoded_by ev _ nowhere k m = refl
  decoded_by ev _ there k m =
      let o = opening_of ev (run_bytes f r) in
      let x = pick (ltb payload_most r.len) (Refused frame_long) (opened_as InFrame r o) in
      let y = either (ltb payload_most r.len) (Refused frame_long) (opened_as InFrame r o) m refl (held_by InFrame r (eqb o.kept 0) m same) in
      either (eqb (run_refusal (length f) r) 0) x (Refused (run_refusal (length f) r)) m y refl

-- ---- what opening a packet answers

module _ (p : MeshPacket) where
  event_bytes : (u : EventPayload) (x : Opened) (f k : List ℕ) → of_opened bytes_in (of_event_opened p (event_opened u x)) f k ≡ opened x f k
  event_bytes u (Now b o) f k = refl
  event_bytes u AlreadyOpen f k = refl
  event_bytes u (Refused n) f k = refl

  command_bytes : (u : CommandPayload) (x : Opened) (f k : List ℕ) → of_opened bytes_in (of_command_opened p (command_opened u x)) f k ≡ opened x f k
  command_bytes u (Now b o) f k = refl
  command_bytes u AlreadyOpen f k = refl
  command_bytes u (Refused n) f k = refl

  module _ (q : MeshPacket) where
    event_under : (u : EventPayload) (x : Opened) → of_event_opened q (event_opened u x) ≡ opened_under q (of_event_opened p (event_opened u x))
    event_under u (Now b o) = refl
    event_under u AlreadyOpen = refl
    event_under u (Refused n) = refl

    command_under : (u : CommandPayload) (x : Opened) → of_command_opened q (command_opened u x) ≡ opened_under q (of_command_opened p (command_opened u x))
    command_under u (Now b o) = refl
    command_under u AlreadyOpen = refl
    command_under u (Refused n) = refl

-- the odd bits are no part of what an event or a command has
even_bytes : (x : Payload) (f k : List ℕ) → bytes_in (even_payload x) f k ≡ bytes_in x f k
even_bytes (AnUplink u) f k = refl
even_bytes (ADownlink u) f k = refl
even_bytes (AnEvent u) f k = refl
even_bytes (ACommand u) f k = refl

even_pieces : (x : Payload) (f k : List ℕ) → pieces_in (even_payload x) f k ≡ pieces_in x f k
even_pieces (AnUplink u) f k = refl
even_pieces (ADownlink u) f k = refl
even_pieces (AnEvent u) f k = refl
even_pieces (ACommand u) f k = refl

-- what does not look at them
abbrev Blind : {A : Type 0} → (Payload → List ℕ → List ℕ → List A) → Type 0
Blind h = (x : Payload) (f k : List ℕ) → h (even_payload x) f k ≡ h x f k

-- sees no change in another header and MIC either
under : {A : Type 0} (h : Payload → List ℕ → List ℕ → List A) → Blind h → (q : MeshPacket) (y : MeshOpened) (f k : List ℕ) → of_opened h (opened_under q y) f k ≡ of_opened h y f k
under h n q (MeshNow x o) f k = n x.payload f k
under h n q MeshOpen f k = refl
under h n q (MeshNot i) f k = refl

-- the same bytes are the same items
items_of : (y : MeshOpened) (f g k : List ℕ) → of_opened bytes_in y g k ≡ of_opened bytes_in y f k → of_opened pieces_in y g k ≡ of_opened pieces_in y f k
items_of (MeshNow x o) f g k h = ap (pieces (is_event x.payload) 0) h
items_of MeshOpen f g k h = refl
items_of (MeshNot n) f g k h = refl

-- ---- packets: p in the frame f, and q in g with the same payload without odd bits. b is the body, and f and g agree in the run behind its relay id

module _ (f g b : List ℕ) (long : length g ≡ length f) (same : run_bytes g (run_in b) ≡ run_bytes f (run_in b)) where
  abbrev r : Run
  r = run_in b

  bytes_by : (a : Payload) → Lies b a → (k : List ℕ) → bytes_in a g k ≡ bytes_in a f k
  bytes_by _ (uplink u l) k = refl
  bytes_by _ (downlink u l) k = refl
  bytes_by _ (event u l h) k = payload_by f g r long same u.events h k
  bytes_by _ (command u l h) k = payload_by f g r long same u.commands h k

  mesh_work_by : (key : List ℕ) (a : Payload) → Lies b a → (k : List ℕ) → mesh_work key (even_payload a) g k ≡ mesh_work key a f k
  unfolding mesh_work
  mesh_work_by key _ (uplink u l) k = refl
  mesh_work_by key _ (downlink u l) k = refl
  mesh_work_by key _ (event u l h) k = work_by f g r long same key true u.relay_id u.timestamp u.events h k
  mesh_work_by key _ (command u l h) k = work_by f g r long same key false u.relay_id u.timestamp u.commands h k

  module _ (p q : MeshPacket) (payload : q.payload ≡ even_payload p.payload) (found : Lies b p.payload) where
    abbrev a : Payload
    a = p.payload

    -- the work buffer
    pub same_work : (key k : List ℕ) → mesh_work key q.payload g k ≡ mesh_work key a f k
    same_work key k = ap (λ (x : Payload). mesh_work key x g k) payload ∙ mesh_work_by key a found k

    -- the answers
    plain : MeshNow q nothing ≡ MeshNow (carrying q (even_payload a)) nothing
    plain = ap (λ (x : Payload). MeshNow (carrying q x) nothing) payload

    answer_by_lem : (key : List ℕ) (x : Payload) → Lies b x → (k : List ℕ) → mesh_decrypted key q (even_payload x) g k ≡ opened_under q (mesh_decrypted key p x f k)
    unfolding mesh_decrypted
    answer_by_lem key _ (uplink u l) k = plain
    answer_by_lem key _ (downlink u l) k = plain
    answer_by_lem key _ (event u l h) k =
        ap (λ (y : Opened). of_event_opened q (event_opened u y)) (decrypt_by f g r long same key true u.relay_id u.timestamp u.events h k)
        ∙ event_under p q u (decrypt_of key true u.relay_id u.timestamp u.events f k)
    answer_by_lem key _ (command u l h) k =
        ap (λ (y : Opened). of_command_opened q (command_opened u y)) (decrypt_by f g r long same key false u.relay_id u.timestamp u.commands h k)
        ∙ command_under p q u (decrypt_of key false u.relay_id u.timestamp u.commands f k)

    pub same_decrypted : (key k : List ℕ) → mesh_decrypted key q q.payload g k ≡ opened_under q (mesh_decrypted key p a f k)
    same_decrypted key k = ap (λ (x : Payload). mesh_decrypted key q x g k) payload ∙ answer_by_lem key a found k

    told_by : (x : Payload) → Lies b x → (k : List ℕ) → mesh_decoded q (even_payload x) g k ≡ opened_under q (mesh_decoded p x f k)
    unfolding mesh_decoded
    told_by _ (uplink u l) k = plain
    told_by _ (downlink u l) k = plain
    told_by _ (event u l h) k =
        ap (λ (y : Opened). of_event_opened q (event_opened u y)) (decode_by f g r long same true u.events h k) ∙ event_under p q u (decode_of true u.events f k)
    told_by _ (command u l h) k =
        ap (λ (y : Opened). of_command_opened q (command_opened u y)) (decode_by f g r long same false u.commands h k) ∙ command_under p q u (decode_of false u.commands f k)

    pub same_decoded : (k : List ℕ) → mesh_decoded q q.payload g k ≡ opened_under q (mesh_decoded p a f k)
    same_decoded k = ap (λ (x : Payload). mesh_decoded q x g k) payload ∙ told_by a found k

    -- the bytes, and the items
    pub sealed_bytes : (k : List ℕ) → bytes_in q.payload g k ≡ bytes_in a f k
    sealed_bytes k = ap (λ (x : Payload). bytes_in x g k) payload ∙ even_bytes a g k ∙ bytes_by a found k

    clear_by : (key : List ℕ) (x : Payload) → Lies b x → (k m : List ℕ) → of_opened bytes_in (mesh_decrypted key p x f k) g m ≡ of_opened bytes_in (mesh_decrypted key p x f k) f m
    unfolding mesh_decrypted
    clear_by key _ (uplink u l) k m = bytes_by a found m
    clear_by key _ (downlink u l) k m = bytes_by a found m
    clear_by key _ (event u l h) k m =
        let x = decrypt_of key true u.relay_id u.timestamp u.events f k in
        event_bytes p u x g m ∙ decrypted_by f g r long same key true u.relay_id u.timestamp u.events h k m ∙ sym (event_bytes p u x f m)
    clear_by key _ (command u l h) k m =
        let x = decrypt_of key false u.relay_id u.timestamp u.commands f k in
        command_bytes p u x g m ∙ decrypted_by f g r long same key false u.relay_id u.timestamp u.commands h k m ∙ sym (command_bytes p u x f m)

    stand_by : (x : Payload) → Lies b x → (k : List ℕ) → of_opened bytes_in (mesh_decoded p x f k) g k ≡ of_opened bytes_in (mesh_decoded p x f k) f k
    unfolding mesh_decoded
    stand_by _ (uplink u l) k = bytes_by a found k
    stand_by _ (downlink u l) k = bytes_by a found k
    stand_by _ (event u l h) k =
        let x = decode_of true u.events f k in
        event_bytes p u x g k ∙ decoded_by f g r long same true u.events h k k ∙ sym (event_bytes p u x f k)
    stand_by _ (command u l h) k =
        let x = decode_of false u.commands f k in
        command_bytes p u x g k ∙ decoded_by f g r long same false u.commands h k k ∙ sym (command_bytes p u x f k)

    module _ (k : List ℕ) where
      abbrev y : MeshOpened
      y = mesh_decoded p a f k

      decode_with : {A : Type 0} (h : Payload → List ℕ → List ℕ → List A) → Blind h → of_opened h y g k ≡ of_opened h y f k → decoded h q g k ≡ decoded h p f k
      decode_with h n e = ap (λ (x : MeshOpened). of_opened h x g k) (same_decoded k) ∙ under h n q y g k ∙ e

      pub decoded_bytes : decoded bytes_in q g k ≡ decoded bytes_in p f k
      decoded_bytes = decode_with bytes_in even_bytes (stand_by a found k)

      pub decoded_items : decoded pieces_in q g k ≡ decoded pieces_in p f k
      decoded_items = decode_with pieces_in even_pieces (items_of y f g k (stand_by a found k))

    module _ (key k : List ℕ) where
      abbrev z : MeshOpened
      z = mesh_decrypted key p a f k

      abbrev m : List ℕ
      m = mesh_work key a f k

      decrypt_with : {A : Type 0} (h : Payload → List ℕ → List ℕ → List A) → Blind h → of_opened h z g m ≡ of_opened h z f m → decrypted h key q g k ≡ decrypted h key p f k
      decrypt_with h n e = ap₂ (λ (x : MeshOpened) (v : List ℕ). of_opened h x g v) (same_decrypted key k) (same_work key k) ∙ under h n q z g m ∙ e

      pub decrypted_bytes : decrypted bytes_in key q g k ≡ decrypted bytes_in key p f k
      decrypted_bytes = decrypt_with bytes_in even_bytes (clear_by key a found k m)

      pub decrypted_items : decrypted pieces_in key q g k ≡ decrypted pieces_in key p f k
      decrypted_items = decrypt_with pieces_in even_pieces (items_of z f g m (clear_by key a found k m))

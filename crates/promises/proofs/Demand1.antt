-- Demand 1, and 2.2 and 2.3 of the rules. Of every call that is lent something to write into: where it answers a number, what it was lent is as
-- before; and where it accepts, what lies behind the bytes that it wrote.
-- (That every call ends and does nothing undefined is what a proved function is; that public calls check for themselves is that none has a
-- `requires`.) Assumes nothing.
use Prim.Native.Nat.{ℕ, ◌≤◌}
use native.Mathlib.Omega.{arith}
use mathlib.Core.Bool.{Bool, true, false, false≢true}
use mathlib.Core.Path.{◌≡◌, refl, sym, ap, ◌∙◌}
use mathlib.Core.List.{List, ◌++◌}
use lib.Dec.{ltb, eqb}
use lib.ListN.{length, take, drop, drop_of_length-le}
use lib.Seq.{drop-append-le}
use Rattle.base.specs.Pick.{pick}
use Rattle.base.specs.Numbers.{output_short, cache_most}
use Rattle.base.specs.Answers.{Answer, value, number, Writing, bytes, refused, answer_of, out_of, written_says, checked_of, checked_says, left_by}
use Rattle.base.proofs.Answers.{out_length}
use Rattle.contents.specs.Content.{Lent}
use Rattle.contents.specs.declared.content.Content.{Content}
use Rattle.contents.specs.declared.content.Content.TheVariants.{Empty, Sealed, Open, Items}
use Rattle.fields.specs.declared.path.RelayPath.{RelayPath}
use Rattle.base.specs.declared.Written.{Written}
use Rattle.base.specs.declared.Written.TheVariants.{Bytes, Refused}
use Rattle.events.specs.declared.stamped.EventPayload.{EventPayload}
use Rattle.events.specs.declared.stamped.CommandPayload.{CommandPayload}
use Rattle.packets.specs.Read.{mesh_says}
use Rattle.packets.specs.declared.mesh.Payload.{Payload}
use Rattle.packets.specs.declared.mesh.Payload.TheVariants as payload
use Rattle.packets.specs.declared.mesh.MeshPacket.{MeshPacket}
use Rattle.sealing.specs.Open.{opened_by, seal_wire, decrypt_of, work_after, Told, opened_says}
use Rattle.sealing.specs.Seal.{event_seal, event_sealed, command_seal, command_sealed, event_opened, command_opened}
use Rattle.sealing.specs.Mesh.{of_event_sealed, of_command_sealed, seal_of, mesh_sealed, of_event_opened, of_command_opened, mesh_decrypted, mesh_work, mesh_opened_says}
use Rattle.sealing.specs.declared.content.Opened.{Opened}
use Rattle.sealing.specs.declared.content.Opened.TheVariants as opened
use Rattle.heartbeats.specs.Heartbeat.{beat_refusal, beat_of, path_after, beat_says}
use Rattle.cache.specs.Cache.{has, add_says, pack_of}
use Rattle.cache.specs.inner.Ring.{ring_count, added_of}
use Rattle.cache_words.specs.inner.Packed.{size_in, count_in, is_below, clear_answer, clear_words, adds_answer, adds_words, add_answer, add_words}
use Rattle.cache.specs.declared.record.PayloadCache.{PayloadCache}
use Rattle.cache.specs.declared.ring.Cache.{Cache}
use Rattle.hops.specs.Hops.{leaves}

never : {A : Type 0} (a : A) (n : ℕ) → value a ≡ number n → ⊥
never a n e = let z : ◌≡◌ {A = ℕ} 0 1 = cc in omega arith

-- ---- what writes into a lent buffer: frames, bodies, keys and their text, sealed payloads

written_by : (w o : List ℕ) (n : ℕ) (t : Bool) → ltb (length o) (length w) ≡ t → written_says (answer_of (bytes w) o) ≡ number n → out_of (bytes w) o ≡ o
unfolding answer_of out_of
written_by w o n true q e = simp q
written_by w o n false q e = absurd (never (length w) n (simp q at e))

pub refused_writes_nothing : (f : Writing) (o : List ℕ) (n : ℕ) → written_says (answer_of f o) ≡ number n → out_of f o ≡ o
unfolding out_of
refused_writes_nothing (refused k) o n e = refl
refused_writes_nothing (bytes w) o n e = written_by w o n (ltb (length o) (length w)) refl e

beyond : (w x : List ℕ) → drop (length w) (w ++ x) ≡ x
beyond w x = let h : length w ≤ length w = omega arith in drop-append-le (length w) w x h ∙ ap (λ (y : List ℕ). y ++ x) (drop_of_length-le w h)

rest_by : (w o : List ℕ) (n : ℕ) (t : Bool) → ltb (length o) (length w) ≡ t → written_says (answer_of (bytes w) o) ≡ value n → drop n (out_of (bytes w) o) ≡ drop n o
unfolding answer_of out_of
rest_by w o n true q e = absurd (never n output_short (sym (simp q at e)))
rest_by w o n false q e =
    let k : value (length w) ≡ value n = simp q at e in
    let m : length w ≡ n = cc in
    rw (← m) (simp q (beyond w (drop (length w) o)))

pub written_keeps_the_rest : (f : Writing) (o : List ℕ) (n : ℕ) → written_says (answer_of f o) ≡ value n → (length (out_of f o) ≡ length o) × (drop n (out_of f o) ≡ drop n o)
unfolding answer_of
written_keeps_the_rest (refused k) o n e = absurd (never n k (sym e))
written_keeps_the_rest (bytes w) o n e = (out_length (bytes w) o, rest_by w o n (ltb (length o) (length w)) refl e)

-- ---- the hop edit

pub refused_edit_changes_nothing : (f : Writing) (s : List ℕ) (n : ℕ) → checked_says (checked_of f) (leaves f s) ≡ number n → leaves f s ≡ s
refused_edit_changes_nothing (refused k) s n e = refl
refused_edit_changes_nothing (bytes w) s n e = absurd (never w n e)

-- ---- opening, into the lent work buffer

opened_by_lem : (ev : Bool) (f : Writing) (w : List ℕ) (n : ℕ) → opened_says (opened_by ev f w) ≡ number n → out_of f w ≡ w
unfolding opened_by out_of
opened_by_lem ev (refused k) w n e = refl
opened_by_lem ev (bytes c) w n e = by (ltb (length w) (length c)) refl where
  by : (t : Bool) → ltb (length w) (length c) ≡ t → pick (ltb (length w) (length c)) w (c ++ drop (length c) w) ≡ w
  by true q = simp q
  by false q = absurd (never _ n (simp q at e))

pub refused_opening_changes_nothing : (key : List ℕ) (ev : Bool) (relay time : ℕ) (b : Content) (f w : List ℕ) (n : ℕ)
    → opened_says (decrypt_of key ev relay time b f w) ≡ number n → work_after key ev relay time b f w ≡ w
unfolding decrypt_of work_after
refused_opening_changes_nothing key ev relay time Empty f w n e = refl
refused_opening_changes_nothing key ev relay time (Sealed r) f w n e = opened_by_lem ev (seal_wire key ev relay time f r) w n e
refused_opening_changes_nothing key ev relay time (Open h r) f w n e = refl
refused_opening_changes_nothing key ev relay time (Items k) f w n e = refl

event_opened_by : (p : MeshPacket) (u : EventPayload) (o : Opened) (n : ℕ) → mesh_opened_says (of_event_opened p (event_opened u o)) ≡ number n → opened_says o ≡ number n
event_opened_by p u (opened.Opened b k) n e = absurd (never _ n e)
event_opened_by p u opened.AlreadyOpen n e = absurd (never _ n e)
event_opened_by p u (opened.Refused k) n e = let q : k ≡ n = cc in ap {B = Answer (Told Content)} (λ (m : ℕ). number m) q

command_opened_by : (p : MeshPacket) (u : CommandPayload) (o : Opened) (n : ℕ) → mesh_opened_says (of_command_opened p (command_opened u o)) ≡ number n → opened_says o ≡ number n
command_opened_by p u (opened.Opened b k) n e = absurd (never _ n e)
command_opened_by p u opened.AlreadyOpen n e = absurd (never _ n e)
command_opened_by p u (opened.Refused k) n e = let q : k ≡ n = cc in ap {B = Answer (Told Content)} (λ (m : ℕ). number m) q

-- the same of a packet
pub refused_packet_opening_changes_nothing : (key : List ℕ) (p : MeshPacket) (q : Payload) (f w : List ℕ) (n : ℕ)
    → mesh_opened_says (mesh_decrypted key p q f w) ≡ number n → mesh_work key q f w ≡ w
unfolding mesh_decrypted mesh_work
refused_packet_opening_changes_nothing key p (payload.Uplink u) f w n e = refl
refused_packet_opening_changes_nothing key p (payload.Downlink u) f w n e = refl
refused_packet_opening_changes_nothing key p (payload.Event u) f w n e =
    refused_opening_changes_nothing key true u.relay_id u.timestamp u.events f w n (event_opened_by p u (decrypt_of key true u.relay_id u.timestamp u.events f w) n e)
refused_packet_opening_changes_nothing key p (payload.Command u) f w n e =
    refused_opening_changes_nothing key false u.relay_id u.timestamp u.commands f w n (command_opened_by p u (decrypt_of key false u.relay_id u.timestamp u.commands f w) n e)

-- ---- a heartbeat's path, into the lent list of entries

pub refused_heartbeat_changes_nothing : (v : List ℕ) (ys : List RelayPath) (n : ℕ) → beat_says (beat_of v (length ys)) ≡ number n → path_after v ys ≡ ys
unfolding beat_of path_after
refused_heartbeat_changes_nothing v ys n e = by (eqb (beat_refusal (length v) (length ys)) 0) refl where
  by : (t : Bool) → eqb (beat_refusal (length v) (length ys)) 0 ≡ t → path_after v ys ≡ ys
  by true q = absurd (never _ n (simp q at e))
  by false q = simp q

-- ---- the cache: a refusal changes nothing, and neither does a hit

cache_by : (c : Cache) (r : PayloadCache) (a b h : Bool) → ltb c.size 1 ≡ a → ltb 64 c.size ≡ b → has (take (ring_count c) c.slots) r ≡ h
    → (n : ℕ) → add_says (added_of c r).answer ≡ number n → (added_of c r).cache ≡ c
unfolding added_of
cache_by c r true b h p q g n e = simp p
cache_by c r false true h p q g n e = simp (p, q)
cache_by c r false false true p q g n e = simp (p, q, g)
cache_by c r false false false p q g n e = absurd (never true n (simp (p, q, g) at e))

pub refused_add_changes_nothing : (c : Cache) (r : PayloadCache) (n : ℕ) → add_says (added_of c r).answer ≡ number n → (added_of c r).cache ≡ c
refused_add_changes_nothing c r n e = cache_by c r (ltb c.size 1) (ltb 64 c.size) (has (take (ring_count c) c.slots) r) refl refl refl n e

hit_by : (c : Cache) (r : PayloadCache) (a b h : Bool) → ltb c.size 1 ≡ a → ltb 64 c.size ≡ b → has (take (ring_count c) c.slots) r ≡ h
    → add_says (added_of c r).answer ≡ value false → (added_of c r).cache ≡ c
unfolding added_of
hit_by c r true b h p q g e = simp p
hit_by c r false true h p q g e = simp (p, q)
hit_by c r false false true p q g e = simp (p, q, g)
hit_by c r false false false p q g e = let z : value true ≡ value false = simp (p, q, g) at e in let y : true ≡ false = cc in absurd (false≢true (sym y))

pub hit_moves_nothing : (c : Cache) (r : PayloadCache) → add_says (added_of c r).answer ≡ value false → (added_of c r).cache ≡ c
hit_moves_nothing c r e = hit_by c r (ltb c.size 1) (ltb 64 c.size) (has (take (ring_count c) c.slots) r) refl refl refl e

-- the same of the cache in words
clear_by : (size : ℕ) (w : List ℕ) (a b : Bool) → ltb size 1 ≡ a → ltb cache_most size ≡ b → (n : ℕ) → checked_says (clear_answer size) size ≡ number n → clear_words size w ≡ w
unfolding clear_answer clear_words
clear_by size w true b p q n e = simp p
clear_by size w false true p q n e = simp (p, q)
clear_by size w false false p q n e = absurd (never size n (simp (p, q) at e))

pub refused_clear_changes_nothing : (size : ℕ) (w : List ℕ) (n : ℕ) → checked_says (clear_answer size) size ≡ number n → clear_words size w ≡ w
refused_clear_changes_nothing size w n e = clear_by size w (ltb size 1) (ltb cache_most size) refl refl n e

words_by_lem : (w : List ℕ) (r : PayloadCache) (a b h : Bool) → ltb (size_in w) 1 ≡ a → ltb cache_most (size_in w) ≡ b → is_below w (pack_of r) (count_in w) ≡ h
    → (n : ℕ) → add_says (add_answer w r) ≡ number n → add_words w r ≡ w
unfolding adds_answer adds_words
words_by_lem w r true b h p q g n e = simp p
words_by_lem w r false true h p q g n e = simp (p, q)
words_by_lem w r false false true p q g n e = simp (p, q, g)
words_by_lem w r false false false p q g n e = absurd (never true n (simp (p, q, g) at e))

pub refused_add_changes_no_word : (w : List ℕ) (r : PayloadCache) (n : ℕ) → add_says (add_answer w r) ≡ number n → add_words w r ≡ w
refused_add_changes_no_word w r n e = words_by_lem w r (ltb (size_in w) 1) (ltb cache_most (size_in w)) (is_below w (pack_of r) (count_in w)) refl refl refl n e

-- ---- what a call stores in a lent place

pub refused_stores_nothing : {A : Type 0} → {B : Type 0} → (f : A → B) (old : B) (x : Answer A) (n : ℕ) → x ≡ number n → left_by f old x ≡ old
refused_stores_nothing f old x n e = ap (left_by f old) e

-- ---- sealing, into the lent output

event_by : (p : MeshPacket) (u : EventPayload) (a : Written) (n : ℕ) → mesh_says (of_event_sealed p (event_sealed u a)) ≡ number n → written_says a ≡ number n
unfolding event_sealed
event_by p u (Bytes k) n e = absurd (never _ n e)
event_by p u (Refused k) n e = let q : k ≡ n = cc in ap {B = Answer ℕ} (λ (m : ℕ). number m) q

command_by : (p : MeshPacket) (u : CommandPayload) (a : Written) (n : ℕ) → mesh_says (of_command_sealed p (command_sealed u a)) ≡ number n → written_says a ≡ number n
unfolding command_sealed
command_by p u (Bytes k) n e = absurd (never _ n e)
command_by p u (Refused k) n e = let q : k ≡ n = cc in ap {B = Answer ℕ} (λ (m : ℕ). number m) q

pub refused_sealing_writes_nothing : (key : List ℕ) (l : Lent) (p : MeshPacket) (q : Payload) (o : List ℕ) (n : ℕ)
    → mesh_says (mesh_sealed key l p q o) ≡ number n → out_of (seal_of key l q) o ≡ o
unfolding mesh_sealed
refused_sealing_writes_nothing key l p (payload.Uplink u) o n e = absurd (never p n e)
refused_sealing_writes_nothing key l p (payload.Downlink u) o n e = absurd (never p n e)
refused_sealing_writes_nothing key l p (payload.Event u) o n e = refused_writes_nothing (event_seal key l u) o n (event_by p u (answer_of (event_seal key l u) o) n e)
refused_sealing_writes_nothing key l p (payload.Command u) o n e = refused_writes_nothing (command_seal key l u) o n (command_by p u (answer_of (command_seal key l u) o) n e)

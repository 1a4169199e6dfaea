-- Each public call of this crate has one outcome. Assumes nothing.
use mathlib.Core.Path.{refl, sym, ap, ◌∙◌}
use mathlib.Core.List.{List}
use Prim.Native.Nat.{ℕ}
use Rattle.base.proofs.Outcome.{Fixed}
use Rattle.fields.specs.declared.path.RelayPath.{RelayPath}
use Rattle.heartbeats.proofs.heartbeat.HeartbeatPayload.check.Kinds as check_kinds
use Rattle.heartbeats.proofs.heartbeat.HeartbeatPayload.check.Reads as check_reads
use Rattle.heartbeats.proofs.heartbeat.HeartbeatPayload.entry.Kinds as entry_kinds
use Rattle.heartbeats.proofs.heartbeat.HeartbeatPayload.entry.Reads as entry_reads
use Rattle.heartbeats.proofs.heartbeat.HeartbeatPayload.from_slice.Kinds as from_slice_kinds
use Rattle.heartbeats.proofs.heartbeat.HeartbeatPayload.from_slice.Reads as from_slice_reads
use Rattle.heartbeats.proofs.heartbeat.HeartbeatPayload.write.Kinds as write_kinds
use Rattle.heartbeats.proofs.heartbeat.HeartbeatPayload.write.Reads as write_reads
use Rattle.heartbeats.proofs.path.held.Kinds as held_kinds
use Rattle.heartbeats.proofs.path.held.Reads as held_reads
use Rattle.heartbeats.proofs.path.Paths.count.Kinds as path_count_kinds
use Rattle.heartbeats.proofs.path.Paths.count.Reads as path_count_reads
use Rattle.heartbeats.proofs.path.Paths.entry.Kinds as path_entry_kinds
use Rattle.heartbeats.proofs.path.Paths.entry.Reads as path_entry_reads
use Rattle.heartbeats.proofs.path.Paths.bad_run.Kinds as bad_run_kinds
use Rattle.heartbeats.proofs.path.Paths.bad_run.Reads as bad_run_reads
use Rattle.heartbeats.proofs.path.Paths.put.Kinds as put_path_kinds
use Rattle.heartbeats.proofs.path.Paths.put.Reads as put_path_reads
use Rattle.heartbeats.proofs.path.Paths.write.Kinds as write_path_kinds
use Rattle.heartbeats.proofs.path.Paths.write.Reads as write_path_reads

check : Fixed 1 check_kinds.ps check_kinds.r check_reads.Post
check κs a x y v w p q = (p ∙ sym q, refl)

entry : Fixed 1 entry_kinds.ps entry_kinds.r entry_reads.Post
entry κs a x y v w p q = (p ∙ sym q, refl)

from_slice : Fixed 2 from_slice_kinds.ps from_slice_kinds.r from_slice_reads.Post
from_slice κs a x y v w p q = (p.0 ∙ sym q.0, ap (λ (l : List RelayPath). (tt, (l, tt))) (p.1 ∙ sym q.1))

write : Fixed 2 write_kinds.ps write_kinds.r write_reads.Post
write κs a x y v w p q = (p.0 ∙ sym q.0, ap (λ (l : List ℕ). (tt, (l, tt))) (p.1 ∙ sym q.1))

held : Fixed 0 held_kinds.ps held_kinds.r held_reads.Post
held κs a x y v w p q = (p ∙ sym q, refl)

path_count_lem : Fixed 2 path_count_kinds.ps path_count_kinds.r path_count_reads.Post
path_count_lem κs a x y v w p q = (p ∙ sym q, refl)

path_entry : Fixed 2 path_entry_kinds.ps path_entry_kinds.r path_entry_reads.Post
path_entry κs a x y v w p q = (p ∙ sym q, refl)

bad_run : Fixed 2 bad_run_kinds.ps bad_run_kinds.r bad_run_reads.Post
bad_run κs a x y v w p q = (p ∙ sym q, refl)

put_path : Fixed 3 put_path_kinds.ps put_path_kinds.r put_path_reads.Post
put_path κs a x y v w p q = (refl, ap (λ (l : List ℕ). (tt, (tt, (l, (tt, tt))))) (p ∙ sym q))

write_path : Fixed 3 write_path_kinds.ps write_path_kinds.r write_path_reads.Post
write_path κs a x y v w p q = (p.0 ∙ sym q.0, ap (λ (l : List ℕ). (tt, (l, tt))) (p.1 ∙ sym q.1))

-- `heartbeats::heartbeat::put_entry` meets its contract. Assumes nothing.
use mathlib.Core.Path.{◌≡◌, ap, ◌∙◌}
use Prim.Native.Nat.{◌*◌}
use lib.ListN.{length, length-set}
use Rattle.wire.specs.Lay.{put}
use Rattle.fields.specs.Path.{path_bytes}
use Rattle.fields.specs.declared.path.PathBytes.{PathBytes}
use Rattle.fields.specs.Path.{six_of}
use Rattle.fields.proofs.Laws.Path.{six_length}
use Rattle.heartbeats.proofs.Steps.{six_put}
use Rattle.heartbeats.proofs.heartbeat.put_entry.Goals as goal

pub shape_of-out : goal.shape_of-out
shape_of-out c = simp length-set

pub returns : goal.returns
unfolding six_of path_bytes
returns c = let s = c.before.before.before in
    let w = c.to_bytes.result.bytes in
    let e : w ≡ six_of s.args.p = ap (λ (x : PathBytes). x.bytes) c.to_bytes.ensures in
    let l : length w ≡ 6 = ap length e ∙ six_length s.args.p in
    six_put s.args.out.now w (s.args.i * 6) l s.requires ∙ ap (put s.args.out.now (s.args.i * 6)) e

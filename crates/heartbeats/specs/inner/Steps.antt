-- What the steps of the code give: how many entries an answer lets through, and a writer's answer from numbers alone. No public contract
-- names any of it. Assumes nothing.
use Rattle.std.specs.Prelude.{ℕ, ◌*◌, ◌/◌, ltb, eqb}
use Rattle.base.specs.Pick.{pick}
use Rattle.base.specs.Numbers.{item_long, output_short, path_most}
use Rattle.base.specs.declared.Written.{Written}
use Rattle.base.specs.declared.Written.TheVariants.{Bytes, Refused}
use Rattle.heartbeats.specs.declared.heartbeat.HeartbeatRead.{HeartbeatRead}
use Rattle.heartbeats.specs.declared.heartbeat.HeartbeatRead.TheVariants.{Heartbeat, Refused as NoBeat}

abbrev pub count_of : HeartbeatRead → ℕ
count_of (Heartbeat h) = h.entries
count_of (NoBeat n) = 0

-- of n entries, the first bad one's number being bad, and an output of so many places
unfoldable pub beat_verdict : ℕ → ℕ → ℕ → Written
beat_verdict bad n room =
    pick (eqb bad 0)
    (pick (ltb path_most n) (Refused item_long) (pick (ltb room (n * 6)) (Refused output_short) (Bytes (n * 6))))
    (Refused bad)

abbrev pub places_of : Written → ℕ
places_of (Bytes n) = n / 6
places_of (Refused n) = 0

-- `numbers::read::read_numbers` meets its contract. Assumes nothing.
use Rattle.packets.specs.Read.{mesh_of}
use Rattle.numbers.specs.Numbers.{numbers_in}
use Rattle.numbers.proofs.Steps.{kept_any, mesh_any, lora_any, empty, long, mesh, lora}
use Rattle.numbers.proofs.read.read_numbers.Goals as goal

pub returns-then-n-eq0 : goal.returns-then-n-eq0
returns-then-n-eq0 c =
    (let both = kept_any _ 1 _ _ _ (empty c.args.frame.now c.if-n-eq0.true) in record { answer = both.0; numbers = both.1.0; rssi = both.1.1.0; snr = both.1.1.1 })

pub returns-then-n-gt-FRAME : goal.returns-then-n-gt-FRAME
returns-then-n-gt-FRAME c =
    (let both = kept_any _ 5 _ _ _ (long c.args.frame.now c.if-n-eq0.false c.if-n-gt-FRAME.true) in record { answer = both.0; numbers = both.1.0; rssi = both.1.1.0; snr = both.1.1.1 })

pub returns-then-frame-eq-MARK : goal.returns-then-frame-eq-MARK
returns-then-frame-eq-MARK c =
    (let both = mesh_any _ (mesh_of c.args.frame.now) _ _ _ _ _ _ _ (mesh c.args.frame.now c.if-n-eq0.false c.if-n-gt-FRAME.false c.if-frame-eq-MARK.true) (c.read_mesh.ensures.answer, (c.read_mesh.ensures.numbers, (c.read_mesh.ensures.rssi, c.read_mesh.ensures.snr))) in record { answer = both.0; numbers = both.1.0; rssi = both.1.1.0; snr = both.1.1.1 })

pub returns : goal.returns
unfolding numbers_in
returns c =
    (let both = lora_any _ _ _ _ _ (lora c.args.frame.now c.if-n-eq0.false c.if-n-gt-FRAME.false c.if-frame-eq-MARK.false) in record { answer = both.0; numbers = both.1.0; rssi = both.1.1.0; snr = both.1.1.1 })

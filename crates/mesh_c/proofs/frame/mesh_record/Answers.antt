-- `mesh_c::frame::mesh_record` meets its contract. Assumes nothing.
use mathlib.Core.Path.{ap, ◌∙◌}
use Rattle.mesh_c.specs.inner.Known.{known_id, known_time}
use Rattle.mesh_c.proofs.Known.{no_width, no_body, no_kind, no_header, known}
use Rattle.mesh_c.proofs.frame.mesh_record.Goals as goal

pub returns-then-too_wide : goal.returns-then-too_wide
returns-then-too_wide c =
    (let both = no_width _ _ _ c.too_wide.ensures c.if-too_wide.true in record { answer = both.0; «record» = both.1 })

pub returns-then-strange_content : goal.returns-then-strange_content
returns-then-strange_content c =
    (let both = no_body _ _ _ c.too_wide.ensures c.if-too_wide.false _ c.strange_content.ensures c.if-strange_content.true in record { answer = both.0; «record» = both.1 })

pub returns-then-numbers : goal.returns-then-numbers
returns-then-numbers c =
    (let both = no_kind _ _ _ c.too_wide.ensures c.if-too_wide.false _ c.strange_content.ensures c.if-strange_content.false c.if-numbers.true in record { answer = both.0; «record» = both.1 })

pub returns-then-numbers-2 : goal.returns-then-numbers-2
returns-then-numbers-2 c =
    (let both = no_header _ _ _ c.too_wide.ensures c.if-too_wide.false _ c.strange_content.ensures c.if-strange_content.false c.if-numbers.false c.if-numbers-2.true in record { answer = both.0; «record» = both.1 })

pub returns : goal.returns
returns c =
    let ns = c.args.numbers.now in
    (let both = known ns _ _ c.too_wide.ensures c.if-too_wide.false _ c.strange_content.ensures c.if-strange_content.false c.if-numbers.false c.if-numbers-2.false _ _ _ (c.from_u16.ensures ∙ c.known_id.ensures ∙ ap (known_id _) c.to_u16.ensures) (c.from_u32.ensures ∙ c.known_time.ensures ∙ ap (known_time _) c.to_u32.ensures) (c.from_u32-2.ensures ∙ c.to_u32-2.ensures) in record { answer = both.0; «record» = both.1 })

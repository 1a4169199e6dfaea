-- `hops::set_hop_count` meets its contract. Assumes nothing.
use mathlib.Core.Path.{sym, ap, ◌∙◌}
use native.Mathlib.Omega.{arith}
use Rattle.base.specs.Lists.{Bytes}
use Rattle.base.specs.Answers.{Writing, checked_of}
use Rattle.fips197.specs.Aes.{aes}
use Rattle.fields.specs.Header.{header_byte}
use Rattle.hops.specs.Hops.{leaves}
use Rattle.hops.proofs.Laws.{edit_is, edit_unread, edit_uncounted, rewritten_is}
use Rattle.hops.proofs.set_hop_count.Goals as goal

pub returns-in-Refused : goal.returns-in-Refused
returns-in-Refused c =
    let a = c.args in
    let s = a.frame.now in
    let e = edit_unread (aes a.key.0) s _ a.hop_count (sym c.from_slice.ensures ∙ c.in-Refused.is) in
    record { answer = sym (ap checked_of e); bytes = sym (ap (λ (f : Writing). leaves f s) e) }

pub returns-in-Refused-to_byte : goal.returns-in-Refused-to_byte
returns-in-Refused-to_byte c =
    let a = c.args in
    let s = a.frame.now in
    let r = sym c.from_slice.ensures ∙ c.in-Mesh.is in
    let h = sym (c.to_byte.ensures ∙ ap header_byte c.recounted.ensures) ∙ c.in-Refused-to_byte.is in
    let e = edit_uncounted (aes a.key.0) s c.in-Mesh.p _ a.hop_count r h in
    record { answer = sym (ap checked_of e); bytes = sym (ap (λ (f : Writing). leaves f s) e) }

pub returns-in-Byte : goal.returns-in-Byte
returns-in-Byte c =
    let a = c.args in
    let s = a.frame.now in
    let E = aes a.key.0 in
    let p = c.in-Mesh.p in
    let b = c.in-Byte.first in
    let small : Bytes s = λ i. (c.slice_known-1.given i).fits in
    let r = sym c.from_slice.ensures ∙ c.in-Mesh.is in
    let h = sym (c.to_byte.ensures ∙ ap header_byte c.recounted.ensures) ∙ c.in-Byte.is in
    let e = edit_is s p small r b E a.hop_count h in
    let anew = rewritten_is s p small r b E a.hop_count h _ _ _ c.is_uplink.ensures c.rewrite.ensures in
    record { answer = sym (ap checked_of e); bytes = anew (omega arith) }

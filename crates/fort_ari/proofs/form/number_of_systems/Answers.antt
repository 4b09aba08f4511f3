use Rattle.std.proofs.Common.{rules, refl, inl, inr, sym, ◌∙◌}
use Rattle.std.proofs.lemmas.Option.{IfSome_then}
use Rattle.fort_ari.proofs.Formats.{format_two, format_four, format_of, IfNone_then}
use Rattle.fort_ari.proofs.form.number_of_systems.Goals as goal

pub returns-in-2-clause-some : goal.returns-in-2-clause-some
returns-in-2-clause-some c =
    format_two _ _ _ c.in_ok-list.ensures.some (rw c.in_ok-list.ensures.bytes at (c.if-not-begins_as_format.ensures.0 refl)) (sym c.len.ensures ∙ c.in-2.is)

pub returns-in-4-clause-some : goal.returns-in-4-clause-some
returns-in-4-clause-some c =
    IfSome_then c.number_named.result (rw (c.get.ensures.bytes ∙ c.in_ok-list.ensures.bytes) at c.number_named.ensures.some)
    (λ n is. format_four _ _ _ _ _ n c.in_ok-list.ensures.some (rw c.in_ok-list.ensures.bytes at (c.if-not-begins_as_format.ensures.0 refl))
    (sym c.len.ensures ∙ c.in-4.is) c.get.ensures.form c.get-in-4.ensures.form is)

pub returns-in-4-clause-none : goal.returns-in-4-clause-none
returns-in-4-clause-none c =
    IfNone_then c.number_named.result (rw (c.get.ensures.bytes ∙ c.in_ok-list.ensures.bytes) at c.number_named.ensures.none)
    (λ none n h. none n ((format_of _ _ _ n c.in_ok-list.ensures.some h).number _ _ c.get.ensures.form c.get-in-4.ensures.form))

pub returns-in_default-clause-none : goal.returns-in_default-clause-none
returns-in_default-clause-none c = λ n h.
    let of = format_of _ _ _ n c.in_ok-list.ensures.some h in
    elim of.count [
      | inl two ↦ let y = c.len.ensures ∙ two in search rules
      | inr four ↦ let y = c.len.ensures ∙ four in search rules
    ]

pub returns-then-not-begins_as_format-clause-none : goal.returns-then-not-begins_as_format-clause-none
returns-then-not-begins_as_format-clause-none c = λ n h.
    let of = format_of _ _ _ n c.in_ok-list.ensures.some h in
    let begins = c.begins_as_format.ensures.1 (rw (sym c.in_ok-list.ensures.bytes) at of.begins) in search rules

-- Each way out is an outcome of `suffix_of`. Assumes nothing.
use Rattle.std.proofs.Common.{[], sym, ◌∙◌, ◌≡◌, ℕ, Option, Some, None, Result, Ok, Err, IfErr}
use Rattle.std.specs.Option.{ok_or}
use Rattle.std.specs.Result.{IsErr, IsErrAnd}
use Rattle.terms.specs.Names.{suffix_of, Answered}
use Rattle.terms.specs.Steps.Suffix.{refused_unsound, refused_malformed, refused_unlisted, refused_whole, refused_long, taken_fits, given}
use Rattle.names.specs.Number.{number_of}
use Rattle.names.specs.declared.NoSuffix.{NoSuffix}
use Rattle.names.specs.declared.NoSuffix.TheVariants.{Unfit}
use Rattle.names.proofs.ask.Goals as goal

-- what a `?` hands on of an error that says that nothing fits
unfit : {T : Type 0} (P : ℕ → Type 0) (r : Result T NoSuffix) (e : NoSuffix) → IsErr r × IsErrAnd r (λ x. x ≡ e) → e ≡ Unfit → P 7
    → IfErr r (λ why. P (number_of why))
unfit P (Ok x) e h q p = tt
unfit P (Err y) e h q p = let k : y ≡ Unfit = h.1 ∙ q in rw k p

-- and where it is made
made : (o : Option ℕ) (y : NoSuffix) → Err y ≡ ok_or o Unfit → o ≡ None → y ≡ Unfit
made None y e n = cc
made (Some x) y e n = cc

pub returns-then-not-is_sound-clause-refused : goal.returns-then-not-is_sound-clause-refused
returns-then-not-is_sound-clause-refused c =
    let a = c.args in
    refused_unsound a.host.now a.book.now a.host.ref_ptr (sym c.is_sound.ensures ∙ c.if-not-is_sound.true)

pub returns-then-not-is_name-clause-refused : goal.returns-then-not-is_name-clause-refused
returns-then-not-is_name-clause-refused c =
    let a = c.args in
    refused_malformed a.host.now a.book.now a.host.ref_ptr (sym c.is_sound.ensures ∙ c.if-not-is_sound.false)
    (sym c.is_name.ensures ∙ c.if-not-is_name.true)

pub returns-in_err-public-clause-refused : goal.returns-in_err-public-clause-refused
returns-in_err-public-clause-refused c =
    let a = c.args in
    let e = made _ _ c.in_err-public.ensures.value c.in_err-public.ensures.ok_part in
    unfit (λ n. Answered (suffix_of a.host.now a.book.now) a.host.ref_ptr a.host.ref_ptr [] n) c.from_residual.result c.in_err-public.field-0.0 c.from_residual.ensures e
    (refused_unlisted a.host.now a.book.now a.host.ref_ptr (sym c.is_sound.ensures ∙ c.if-not-is_sound.false)
    (sym c.is_name.ensures ∙ c.if-not-is_name.false) (sym c.public_of.ensures ∙ c.in_err-public.ensures.ok_part))

pub returns-in_err-taken-clause-refused : goal.returns-in_err-taken-clause-refused
returns-in_err-taken-clause-refused c =
    let a = c.args in
    let e = made _ _ c.in_err-taken.ensures.value c.in_err-taken.ensures.ok_part in
    unfit (λ n. Answered (suffix_of a.host.now a.book.now) a.host.ref_ptr a.host.ref_ptr [] n) c.from_residual-in_err-taken.result c.in_err-taken.field-0.0 c.from_residual-in_err-taken.ensures e
    (refused_whole a.host.now a.book.now a.host.ref_ptr (sym c.is_sound.ensures ∙ c.if-not-is_sound.false)
    (sym c.is_name.ensures ∙ c.if-not-is_name.false) c.in_ok-public.public (sym c.public_of.ensures ∙ c.in_ok-public.ensures.ok_part)
    (sym c.with_label.ensures ∙ c.in_err-taken.ensures.ok_part))

pub returns-then-taken-gt64-clause-refused : goal.returns-then-taken-gt64-clause-refused
returns-then-taken-gt64-clause-refused c =
    let a = c.args in
    refused_long a.host.now a.book.now a.host.ref_ptr (sym c.is_sound.ensures ∙ c.if-not-is_sound.false)
    (sym c.is_name.ensures ∙ c.if-not-is_name.false) c.in_ok-public.public (sym c.public_of.ensures ∙ c.in_ok-public.ensures.ok_part)
    c.in_ok-taken.taken (sym c.with_label.ensures ∙ c.in_ok-taken.ensures.ok_part) c.if-taken-gt64.true

pub overflow_sub-result : goal.overflow_sub-result
overflow_sub-result c =
    taken_fits c.args.host.now c.in_ok-public.public c.in_ok-taken.taken (sym c.with_label.ensures ∙ c.in_ok-taken.ensures.ok_part)

pub returns-clause-given : goal.returns-clause-given
returns-clause-given c =
    let a = c.args in
    given a.host.now a.book.now a.host.ref_ptr (sym c.is_sound.ensures ∙ c.if-not-is_sound.false)
    (sym c.is_name.ensures ∙ c.if-not-is_name.false) c.in_ok-public.public (sym c.public_of.ensures ∙ c.in_ok-public.ensures.ok_part)
    c.in_ok-taken.taken (sym c.with_label.ensures ∙ c.in_ok-taken.ensures.ok_part) c.if-taken-gt64.false

-- Each name that the loop comes to is better or is passed by. Assumes nothing.
use Rattle.std.proofs.Common.{◌<◌, ◌≤◌, ◌≡◌, ◌⊎◌, Option, Some, None, ap, arith, false, inl, inr, length, ltb-false, ltb-true, refl, sym, ◌∙◌}
use Rattle.std.specs.Option.{IsSome, MatchOption}
use Rattle.std.proofs.lemmas.Option.{MatchOption-at_some}
use Rattle.terms.specs.Names.{under}
use Rattle.terms.specs.Laws.Book.{book_size}
use Rattle.terms.specs.Steps.Longest.{or_zero, search_start, search_end, search_inside, search_some, search_better, search_passed, longer}
use Rattle.terms.specs.Steps.Listed.{next_is, name_long}
use Rattle.names.proofs.longest.public_of.Goals as goal
use Rattle.names.proofs.longest.public_of.Goals.{then-lt+then-is_under, else-lt, else-lt-via-then-lt+else-is_under, else-lt-via-else-lt}

is_there : {A : Type 0} (r : Option A) (P : Type 0) (Q : A → Type 0) → MatchOption r P Q → (P → ⊥) → IsSome r
is_there None P Q m f = absurd (f m)
is_there (Some x) P Q m f = refl

pub of-t-requires : goal.of-t-requires
of-t-requires c = book_size c.args.b.now c.requires

pub loop-init : goal.loop-init
loop-init c = search_start c.args.h.now c.args.b.now c.of-t.result.names_at c.of-t.result.names c.requires c.of-t.ensures.names_at c.of-t.ensures.names

pub unwrap-n-requires : goal.unwrap-n-requires
unwrap-n-requires c =
    let s = search_inside _ _ _ _ _ _ c.loop.invariant (omega arith) in
    is_there c.name_at.result _ _ c.name_at.ensures (λ l. omega arith)

pub overflow_add-at-in-loop : goal.overflow_add-at-in-loop
overflow_add-at-in-loop c =
    let n = MatchOption-at_some _ _ c.unwrap-n.result c.unwrap-n.ensures c.name_at.ensures in
    omega (arith, n.0, next_is c.args.b.now c.loop.at, name_long c.args.b.now c.loop.at n.0, ap length n.1)

pub loop-preserved : goal.loop-preserved
loop-preserved c =
    let s = c.loop.invariant in
    let m = c.unwrap-n.result.now in
    let e = (MatchOption-at_some _ _ c.unwrap-n.result c.unwrap-n.ensures c.name_at.ensures).1 in
    let p : 0 < length m = rw e (search_some _ _ _ _ _ _ s (omega arith)) in
    let t = longer c.loop.best (length m) c.lt.result p c.lt.ensures in
    elim c.if-lt.branch [
      | then-lt+then-is_under w ↦
          let l = ltb-true (or_zero c.loop.best) (length m) (sym t ∙ w.if-lt.true) in
          rw w.best-is (search_better _ _ _ _ _ _ s (omega arith) m e l (sym w.is_under.ensures ∙ w.if-is_under.true))
      | else-lt w ↦
          let d : (length m ≤ or_zero c.loop.best) ⊎ (under c.args.h.now m ≡ false) = elim w.else-lt.branch [
            | else-lt-via-then-lt+else-is_under w' ↦ inr (sym w'.is_under.ensures ∙ w'.if-is_under.false)
            | else-lt-via-else-lt w' ↦ inl (ltb-false (or_zero c.loop.best) (length m) (sym t ∙ w'.if-lt.false))
          ] in
          rw w.best-is (search_passed _ _ _ _ _ _ s (omega arith) m e d)
    ]

pub returns : goal.returns
returns c = search_end _ _ _ _ _ _ c.loop.invariant c.loop-test.false

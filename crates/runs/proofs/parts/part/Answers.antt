-- The k-th part that the split gives, or else the empty one. Assumes nothing.
use Rattle.std.proofs.Common.{rules, tests, ◌≡◌, ◌==◌, ℕ, Option, Some, None, List, [], unwrap_or, Bor, refl, ap, ◌∙◌}
use Rattle.std.specs.List.{slice_split}
use Rattle.std.specs.Option.{option_map}
use Rattle.std.proofs.lemmas.Iterator.Consumers.{nth_from_yields_List}
use Rattle.std.proofs.lemmas.Iterator.Splits.{YieldsList-from_slice_split}
use Rattle.std.proofs.lemmas.Option.{unwrap_or-slice_get}
use Rattle.runs.proofs.parts.part.Goals as goal

now_else : (r : Option (Bor (List ℕ))) (d : Bor (List ℕ)) → (unwrap_or r d).now ≡ unwrap_or (option_map (λ x. x.now) r) d.now
now_else (Some x) d = refl
now_else None d = refl

pub returns : goal.returns
returns c =
    let parts = slice_split (λ b. b == c.args.by) c.args.s.now in
    let e = nth_from_yields_List c.nth.result c.nth.new.self c.args.k c.nth.ensures.ran (YieldsList-from_slice_split _ (λ b. b == c.args.by) c.args.s.now c.split.ensures.rest c.split.ensures.done c.split.ensures.closure (λ x b q k. search (rules, tests))) in
    ap (λ (r : Bor (List ℕ)). r.now) c.unwrap_or.ensures
    ∙ now_else c.nth.result _
    ∙ ap (λ r. unwrap_or r []) e
    ∙ unwrap_or-slice_get parts c.args.k []

-- The letter, the words and the line feed, each where the one before it ends. Assumes nothing.
use Rattle.std.proofs.Common.{ℕ, ◌+◌, ◌-◌, ◌≡◌, [], ◌∷◌, ap, arith, drop, take, length-take}
use Rattle.terms.specs.Names.{num}
use Rattle.logs.specs.Laws.Bound.{length_numbers, length_payload}
use Rattle.logs.specs.Laws.Lines.{wrote_action}
use Rattle.lines.proofs.line.put_action.Goals as goal

pub put_payload-c-requires : goal.put_payload-c-requires
put_payload-c-requires c =
    let size = c.num_at-size.result in
    let head = length_numbers (c.from.result ∷ c.num_at.result ∷ c.from-2.result ∷ size ∷ []) in
    let part = length-take (10 + size - 10) (drop 10 c.args.s.now) in
    omega (arith, c.requires.1, c.num_at-size.ensures.number, c.put-a.ensures.next, c.put_numbers-b.ensures.next)

pub put-requires : goal.put-requires
put-requires c =
    let size = c.num_at-size.result in
    let head = length_numbers (c.from.result ∷ c.num_at.result ∷ c.from-2.result ∷ size ∷ []) in
    let part = length-take (10 + size - 10) (drop 10 c.args.s.now) in
    let words = length_payload (take (10 + size - 10) (drop 10 c.args.s.now)) in
    omega (
      arith,
      c.requires.1,
      c.num_at-size.ensures.number,
      c.put-a.ensures.next,
      c.put_numbers-b.ensures.next,
      c.put_payload-c.ensures.next,
    )

pub returns : goal.returns
returns c =
    let s = c.args.s.now in
    let e : 10 + c.num_at-size.result - 10 ≡ num s 6 4 = omega (arith, c.num_at-size.ensures.number) in
    wrote_action s c.requires.0 (omega (arith, c.requires.1)) c.from.ensures c.num_at.ensures.number c.from-2.ensures
    c.num_at-size.ensures.number (ap (λ (n : ℕ). take n (drop 10 s)) e) c.put-a.ensures c.put_numbers-b.ensures
    c.put_payload-c.ensures c.put.ensures

-- `front::read_all`: what a read brought stands behind what is had, and the reader has lost both.
use Rattle.std.proofs.Common.{ℕ, ◌+◌, ◌≤◌, ◌≡◌, List, ◌++◌, Option, None, Some, sym, subst, ap, ◌∙◌, append_assoc, length, take, arith, length-append, length-take-le}
use Rattle.std.proofs.Math.Seq.{take-append-add}
use Rattle.std.proofs.lemmas.List.{take-append-le}
use Rattle.std.specs.Io.KnownBytes.{Consumes}
use Rattle.reader.proofs.front.read_all.Goals as goal

consumes_both : (a b c : Option (List ℕ)) (xs ys : List ℕ) → Consumes a b xs → Consumes b c ys → Consumes a c (xs ++ ys)
consumes_both None b c xs ys p q = tt
consumes_both (Some s) None c xs ys p q = absurd p
consumes_both (Some s) (Some t) None xs ys p q = absurd q
consumes_both (Some s) (Some t) (Some u) xs ys p q = p ∙ ap (λ l. xs ++ l) q ∙ sym (append_assoc xs ys u)

-- the front of a room with n bytes behind the first h
front_then : (room part rest : List ℕ) (h n : ℕ) → h ≤ length room → n ≤ length part
    → take (h + n) (take h room ++ (part ++ rest)) ≡ take h room ++ take n part
front_then room part rest h n fits few =
    let e : length (take h room) ≡ h = length-take-le h room fits in
    subst (λ k. take (k + n) (take h room ++ (part ++ rest)) ≡ take h room ++ take n part) e
    (take-append-add (take h room) (part ++ rest) n ∙ ap (λ l. take h room ++ l) (take-append-le n part rest few))

pub loop-have-preserved : goal.loop-have-preserved
loop-have-preserved g c =
    let h = c.loop-have.have in
    let to = c.loop-have.to in
    let inv = c.loop-have.invariant in
    let part = c.read.new.buf in
    let long = length-take-le h to inv.0 in
    let few = c.in-Ok.ensures.bound.0 in (
      simp length-append (omega (arith, long, few)),
      subst (Consumes _ _) (sym (front_then to part _ h c.in-Ok.n inv.0 few)) (consumes_both _ _ _ _ _ inv.1 c.in-Ok.ensures.bytes.0),
    )

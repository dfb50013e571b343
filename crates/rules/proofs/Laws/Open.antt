-- An open that is not refused is one that the table takes: its number is 0 only for a sound book and a suffix that is all of
-- its own suffix, with a slot and a serial left. Assumes nothing.
use Rattle.std.specs.Prelude.{◌≡◌, refl, Bool, true, false, not, cond, ◌≢◌, List, ℕ, eqb}
use Rattle.std.proofs.Common.{sym, ap, subst, ◌∙◌, arith, eqb-true}
use Rattle.std.proofs.lemmas.Bool.{eqb-false, not-false}
use Rattle.terms.specs.Base.{alike}
use Rattle.terms.specs.Names.{sound_book, suffix_of}
use Rattle.terms.specs.Laws.Bools.{and_left, and_right}
use Rattle.terms.specs.Laws.Lists.{alike_eq}
use Rattle.terms.specs.Laws.Answer.{suffix_six}
use Rattle.terms.specs.Laws.Suffix.{Suffix, suffix_facts}
use Rattle.fields.specs.Table.{tenant, opens, most_opens, view, sound_table, live_tabs, Openable}
use Rattle.fields.specs.Laws.Room.{tabs_most}
use Rattle.fields.specs.Laws.Asked.{let_seat, opens_left}
use Rattle.rules.specs.Rule.Desk.{Desk, desk, desk_at}
use Rattle.rules.specs.Rule.Seat.{acceptable}
use Rattle.rules.specs.Held.{book_number, open_number}

-- an acceptable suffix is what it is a suffix of
pub acceptable_suffix : (b x : List ℕ) → acceptable b x ≡ true → Suffix x b x
unfolding acceptable
acceptable_suffix b x e =
    let zero = eqb (suffix_of x b).why 0 in
    let whole = alike (suffix_of x b).part x in
    subst (Suffix x b) (alike_eq (suffix_of x b).part x (and_right zero whole e))
    (suffix_facts x b (eqb-true (suffix_of x b).why 0 (and_left zero whole e)))

-- and its book is sound
pub acceptable_book : (b x : List ℕ) → acceptable b x ≡ true → sound_book b ≡ true
unfolding acceptable
acceptable_book b x e =
    let z = eqb-true (suffix_of x b).why 0 (and_left (eqb (suffix_of x b).why 0) (alike (suffix_of x b).part x) e) in
    not-false (sound_book b) (sym (suffix_six x b) ∙ ap (λ (n : ℕ). eqb n 6) z)

-- a let seat with fewer than ten tabs and a serial left takes an acceptable suffix
pub openable : (t b x : List ℕ) (s : ℕ) → sound_table t ≡ true → view t (tenant s) ≢ 0 → acceptable b x ≡ true
    → eqb (live_tabs (view t) s) 10 ≡ false → eqb (view t (opens s)) most_opens ≡ false → Openable t s x
openable t b x s e l a n m =
    let seat = let_seat t s l in
    let most = tabs_most (view t) s in
    let less = eqb-false (live_tabs (view t) s) 10 n in
    let suffix = acceptable_suffix b x a in
    record {
      sound = e;
      seat = seat;
      is_let = l;
      slot = omega arith;
      more = opens_left t s e seat m;
      name = suffix.name;
      dotted = suffix.dotted;
      long = suffix.size;
    }

-- ---- the number 0

pub record Accepted (d : Desk) (b x : List ℕ) : Type 0 where
  pub book : sound_book b ≡ true
  pub suffix : acceptable b x ≡ true
  pub slot : eqb d.tab_count 10 ≡ false
  pub serial : d.spent ≡ false

pub accepted : (d : Desk) (b x : List ℕ) → open_number d b x ≡ 0 → Accepted d b x
unfolding open_number book_number
accepted d b x h =
    go (sound_book b) (acceptable b x) (eqb d.tab_count 10) d.spent refl refl refl refl h
  where
    number : (book suffix : Bool) → ℕ
    number book suffix = cond (not book) 6 (cond (not suffix) 7 0)

    go : (book suffix full spent : Bool) → sound_book b ≡ book → acceptable b x ≡ suffix → eqb d.tab_count 10 ≡ full
        → d.spent ≡ spent
        → cond (eqb (number book suffix) 0) (cond full 8 (cond spent 9 0)) (number book suffix) ≡ 0 → Accepted d b x
    go true true true s p q r u k = absurd (omega arith)
    go true true false true p q r u k = absurd (omega arith)
    go true true false false p q r u k = record { book = p; suffix = q; slot = r; serial = u }
    go true false f s p q r u k = absurd (omega arith)
    go false a f s p q r u k = absurd (omega arith)

-- an open that has the number 0 is one that the table takes
pub open_openable : (t b x : List ℕ) (s : ℕ) → sound_table t ≡ true → view t (tenant s) ≢ 0
    → open_number (desk_at t s) b x ≡ 0 → Openable t s x
unfolding desk
open_openable t b x s e l h =
    let a = accepted (desk_at t s) b x h in openable t b x s e l a.suffix a.slot a.serial

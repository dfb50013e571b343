-- What holds between two turns of `serve`: so many events are given, and the room is as long as at the start. Assumes nothing.
use Rattle.std.proofs.Common.{ℕ, ◌+◌, ◌*◌, ◌≤◌, ◌<◌, ◌≡◌, List, length, refl, ◌∙◌, arith}
use Rattle.logs.specs.Inner.{most_text, Room, One, Many}
use Rattle.logs.specs.Laws.Serving.{many_none, many_more, many_inside, many_filled}
use Rattle.logs.specs.declared.cursor.Cursor.{Cursor}

-- what `serve` asks of the number n of the events before, the count k and the room o
abbrev pub Asked : List ℕ → ℕ → ℕ → Type 0
Asked o n k = (n + k < 18446744073709551616) × (most_text * k ≤ length o)

-- of the events of stream s, with table t, book b and room o at the start, after n others, k are given
pub record Given (s t b o : List ℕ) (n k : ℕ) (t' o' : List ℕ) (c : Cursor) (filled : ℕ) : Type 0 where
  pub many : Many s t b o n k t' o' c filled
  pub roomy : length o' ≡ length o

pub none_given : (s t b o : List ℕ) (n : ℕ)
    → Given s t b o n 0 t o (record { place = 0; number = n }) 0
none_given s t b o n = record { many = many_none s t b o n; roomy = refl }

module _ {s t b o : List ℕ} {n k : ℕ} {t' o' : List ℕ} {c : Cursor} {filled : ℕ}
    (g : Given s t b o n k t' o' c filled) where
  -- of count events another can be given
  pub can_give : {count : ℕ} → Asked o n count → k < count → Room s o' c filled
  can_give a more =
      let r = g.roomy in
      record {
        inside = many_inside g.many;
        counted = omega (arith, a.0, g.many.number);
        roomy = omega (arith, a.1, many_filled g.many);
      }

  pub one_given : {t'' o'' : List ℕ} {c' : Cursor} {filled' : ℕ} → One s t' b o' c filled t'' o'' c' filled'
      → length o'' ≡ length o' → Given s t b o n (k + 1) t'' o'' c' filled'
  one_given one as_roomy = record { many = many_more g.many one; roomy = as_roomy ∙ g.roomy }

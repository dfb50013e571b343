-- Laws of events given one after another: one event more, where the cursor stands, and how much text there is. Assumes nothing.
use Rattle.std.specs.Prelude.{ℕ, zero, suc, ◌+◌, ◌*◌, ◌≤◌, ◌≡◌, refl, List, [], ◌∷◌, ◌++◌, length, take, drop}
use Rattle.std.proofs.Common.{sym, ap₂, ◌∙◌, append-nil, zero-add, add-zero, add-one, arith, length-append, length-drop, length-take-le}
use Rattle.std.proofs.Math.Path.{ap}
use Rattle.rules.specs.Sheet.{room_needed, over}
use Rattle.rules.proofs.Laws.Over.{over_nothing, over_over}
use Rattle.rules.proofs.Promises.Step.{step_few, step_room}
use Rattle.logs.specs.Rule.Stream.{first_bytes, joined}
use Rattle.logs.specs.Rule.Line.{lines}
use Rattle.logs.specs.Rule.Log.{step, log_from, table_after}
use Rattle.logs.specs.Rule.Reading.{taken}
use Rattle.logs.specs.Rule.Serving.{most_text, event_at, moved_past, One, Many}
use Rattle.logs.specs.declared.cursor.Cursor.{Cursor}
use Rattle.logs.specs.Laws.First.{first_inside}
use Rattle.logs.specs.Laws.Taken.{length_taken, left_more}
use Rattle.logs.specs.Laws.Reads.{log_append, table_append}
use Rattle.logs.specs.Laws.Bound.{lines_bound}

-- ---- events off the front

-- where the next one stands
abbrev end : ℕ → List ℕ → ℕ
end k s = length (joined (taken k s))

taken_more : (k : ℕ) (s : List ℕ) → taken (suc k) s ≡ taken k s ++ (event_at s (end k s) ∷ [])
unfolding taken joined event_at
taken_more zero s = refl
taken_more (suc k) s =
    let f = first_bytes s in
    let d = drop f s in
    ap (λ l. take f s ∷ l) (taken_more k d)
    ∙ ap (λ x. take f s ∷ (taken k d ++ (take (first_bytes x) x ∷ []))) (left_more k s)

end_more : (k : ℕ) (s : List ℕ) → end k s + first_bytes (drop (end k s) s) ≡ end (suc k) s
unfolding taken joined
end_more zero s =
    let f = first_bytes s in
    omega (arith, ap length (append-nil (take f s)), length-take-le f s (first_inside s))
end_more (suc k) s =
    let f = first_bytes s in
    let d = drop f s in
    let a = length-take-le f s (first_inside s) in
    let b = length-append (take f s) (joined (taken k d)) in
    let e = length-append (take f s) (joined (taken (suc k) d)) in
    let g = ap first_bytes (left_more k s) in
    omega (arith, end_more k d)

end_inside : (k : ℕ) (s : List ℕ) → end k s ≤ length s
unfolding taken joined
end_inside zero s = omega arith
end_inside (suc k) s =
    let f = first_bytes s in
    let i = end_inside k (drop f s) in
    let a = first_inside s in
    omega (arith, length-append (take f s) (joined (taken k (drop f s))), length-take-le f s a, length-drop f s)

-- ---- one event more

module _ (s t b : List ℕ) (n k : ℕ) where
  -- what the kernel makes of it, and its lines
  abbrev last : List ℕ
  last = lines (n + k + 1) (step (table_after t b (taken k s)) b (event_at s (end k s)))

  log_more : log_from n t b (taken (suc k) s) ≡ log_from n t b (taken k s) ++ last
  unfolding log_from
  log_more =
      let l = taken k s in
      let e = event_at s (end k s) in
      ap (log_from n t b) (taken_more k s) ∙ log_append n t b l (e ∷ [])
      ∙ ap (λ i. log_from n t b l ++ (lines (n + i + 1) (step (table_after t b l) b e) ++ [])) (length_taken k s)
      ∙ ap (λ x. log_from n t b l ++ x) (append-nil last)

  table_more : table_after t b (taken (suc k) s) ≡ (step (table_after t b (taken k s)) b (event_at s (end k s))).table
  unfolding table_after
  table_more = ap (table_after t b) (taken_more k s) ∙ table_append t b (taken k s) (event_at s (end k s) ∷ [])

pub many_none : (s t b o : List ℕ) (n : ℕ) → Many s t b o n 0 t o (record { place = 0; number = n }) 0
unfolding taken joined log_from table_after
many_none s t b o n =
    record { table = refl; text = sym (over_nothing o 0); next = refl; place = refl; number = sym (add-zero n) }

-- where none is given nothing changes
pub many_zero : {s t b o : List ℕ} {n k : ℕ} {t₁ o₁ : List ℕ} {c : Cursor} {f : ℕ} → Many s t b o n k t₁ o₁ c f → k ≡ 0
    → (t₁ ≡ t) × (o₁ ≡ o)
unfolding taken log_from table_after
many_zero {s} {t} {b} {o} {n} m e =
    let table = m.table ∙ ap (λ i. table_after t b (taken i s)) e in
    let text = m.text ∙ ap (λ i. over o 0 (log_from n t b (taken i s))) e ∙ over_nothing o 0 in
    (table, text)

pub many_more : {s t b o : List ℕ} {n k : ℕ} {t₁ o₁ : List ℕ} {c : Cursor} {f : ℕ} {t₂ o₂ : List ℕ} {c' : Cursor} {f' : ℕ}
    → Many s t b o n k t₁ o₁ c f → One s t₁ b o₁ c f t₂ o₂ c' f' → Many s t b o n (k + 1) t₂ o₂ c' f'
unfolding moved_past
many_more {s} {t} {b} {o} {n} {k} {t₁} {o₁} {c} {f} {t₂} {o₂} {c'} {f'} m w =
    let x = log_from n t b (taken k s) in
    let does : step t₁ b (event_at s c.place) ≡ step (table_after t b (taken k s)) b (event_at s (end k s)) =
    ap₂ (λ u p. step u b (event_at s p)) m.table m.place in
    let says : lines (c.number + 1) (step t₁ b (event_at s c.place)) ≡ last s t b n k =
    ap₂ (λ i y. lines (i + 1) y) m.number does in
    let whole = log_more s t b n k in
    let at : f ≡ 0 + length x = m.next ∙ sym (zero-add (length x)) in
    rw (add-one k)
    (record {
      table = w.table ∙ ap (λ y. y.table) does ∙ sym (table_more s t b n k);
      text =
          w.text ∙ ap (over o₁ f) says ∙ ap₂ (λ u i. over u i (last s t b n k)) m.text at
          ∙ over_over o 0 x (last s t b n k) (omega arith) ∙ ap (over o 0) (sym whole);
      next =
          w.next ∙ ap₂ (λ i y. i + length y) m.next says ∙ sym (length-append x (last s t b n k)) ∙ ap length (sym whole);
      place = ap (λ d. d.place) w.moved ∙ ap (λ p. p + first_bytes (drop p s)) m.place ∙ end_more k s;
      number = let a = m.number in omega (arith, ap (λ d. d.number) w.moved);
    })

-- ---- where the cursor stands, and how much text there is

pub many_inside : {s t b o : List ℕ} {n k : ℕ} {t₁ o₁ : List ℕ} {c : Cursor} {f : ℕ} → Many s t b o n k t₁ o₁ c f
    → c.place ≤ length s
many_inside {s} {k = k} m = let h = end_inside k s in omega (arith, m.place)

text_most : (k : ℕ) (s t b : List ℕ) (n : ℕ) → length (log_from n t b (taken k s)) ≤ most_text * k
unfolding taken log_from
text_most zero s t b n = omega arith
text_most (suc k) s t b n =
    let e = take (first_bytes s) s in
    let x = step t b e in
    let i = text_most k (drop (first_bytes s) s) x.table b (n + 1) in
    let h = lines_bound (n + 1) x (step_few room_needed t b e) (step_room room_needed t b e) in
    omega (arith, length-append (lines (n + 1) x) (log_from (n + 1) x.table b (taken k (drop (first_bytes s) s))))

pub many_filled : {s t b o : List ℕ} {n k : ℕ} {t₁ o₁ : List ℕ} {c : Cursor} {f : ℕ} → Many s t b o n k t₁ o₁ c f
    → f ≤ most_text * k
many_filled {s} {t} {b} {n = n} {k = k} m = let h = text_most k s t b n in omega (arith, m.next)

-- An open with a new process row: every field after it, and that it keeps a table sound. Assumes nothing.
use Rattle.std.specs.Prelude.{◌≡◌, true, false, ◌≢◌, List, ℕ, ◌+◌, ◌-◌, ◌^◌, ◌<◌, length, get_or}
use Rattle.std.proofs.Math.Path.{sym, ap}
use Rattle.std.proofs.Common.{◌∙◌, arith}
use Rattle.std.proofs.lemmas.Bool.{false≢true}
use Rattle.std.proofs.Math.ListN.{take, get_or-eq_default}
use Rattle.terms.specs.Names.{is_name, has_dot, folded, same}
use Rattle.terms.specs.Laws.Bools.{within_in, fails}
use Rattle.terms.specs.Base.{Range}
use Rattle.terms.specs.Laws.Fold.{length_folded, folded_folded, is_folded_folded}
use Rattle.terms.specs.Laws.Name.{name_folded, dot_folded}
use Rattle.terms.specs.Laws.Under.{same_of}
use Rattle.fields.specs.Base.{one, series}
use Rattle.fields.specs.Rule.View.{View, tenant, selected, opens, slots, serial, row, waiting, number, owner, tabs}
use Rattle.fields.specs.Rule.View.{size, row_zero, letter, last}
use Rattle.fields.specs.Rule.Clause.{good_name, same_pair}
use Rattle.fields.specs.Rule.Word.{live, used, owner_at, name_of, points}
use Rattle.fields.specs.Rule.Update.{hanging, making}
use Rattle.fields.specs.Change.{changes}
use Rattle.fields.specs.Laws.Series.{series_take}
use Rattle.fields.specs.Laws.Sound.{Sound, used_of}
use Rattle.fields.specs.Laws.Seats.{Changed}
use Rattle.fields.specs.Laws.Rows.{KeptRow, RowChanged, RowNow, pair_parts, used=, name=}
use Rattle.fields.specs.Laws.Points.{points_is, points_free}
use Rattle.fields.specs.Laws.Links.{Linked, kept}
use Rattle.fields.specs.Laws.Still.{Offsets}
use Rattle.fields.specs.Laws.Open.{Hung, hung_fields, open_changed, open_formed, opens_sum, live_now}
use Rattle.fields.specs.Laws.Make.{Made, made_fields}

-- every field after an open with a new row p
pub record Renewed (v u : View) (s k p o : ℕ) (suffix : List ℕ) : Type 0 where
  pub rest : Changed v u s k
  pub others : (q : ℕ) → q ≢ p → KeptRow v u q
  pub tabs= : (q : ℕ) → q ≢ p → u (tabs q) ≡ v (tabs q)
  pub row_zero= : (q : ℕ) → u (row_zero q) ≡ v (row_zero q)
  pub serial! : u (serial s k) ≡ v (opens s) + 1
  pub row! : u (row s k) ≡ p
  pub waiting! : u (waiting s k) ≡ 0
  pub selected! : u (selected s) ≡ k
  pub opens! : u (opens s) ≡ v (opens s) + 1
  pub slots! : u (slots s) ≡ v (slots s) + 2 ^ (k - 1)
  pub number! : u (number p) ≡ v last + 1
  pub owner! : u (owner p) ≡ o
  pub size! : u (size p) ≡ length suffix
  pub letter! : (j : ℕ) → Range 1 64 j → u (letter p j) ≡ get_or (folded suffix) (j - 1) 0
  pub name! : name_of u p ≡ folded suffix
  pub tabs! : u (tabs p) ≡ 1
  pub last! : u last ≡ v last + 1
  pub offsets : Offsets v u

-- ---- an open with a new row

module _ (most : ℕ) (v : View) (s k p : ℕ) (suffix : List ℕ) (w : Sound most v) (seat : Range 1 8 s) (slot : Range 1 10 k)
    (is_let : v (tenant s) ≢ 0) (free : live v s k ≡ false) (room : v (opens s) < most)
    (row_in : Range 1 80 p) (unused : used v p ≡ false)
    (name : is_name suffix ≡ true) (dotted : has_dot suffix ≡ true) (long : Range 3 64 (length suffix))
    (none : (q : ℕ) → Range 1 80 q → used v q ≡ true → v (owner q) ≡ owner_at v s → same (name_of v q) suffix ≡ false) where
  abbrev mid : View
  mid = changes v (making v p (owner_at v s) suffix)

  abbrev opens_new : View
  opens_new = changes mid (hanging mid s k p)

  made : Made v mid p (owner_at v s) suffix
  made = made_fields v p (owner_at v s) suffix

  hung : Hung mid opens_new s k p
  hung = hung_fields mid s k p

  pub new_others : (q : ℕ) → q ≢ p → KeptRow v opens_new q
  new_others q h =
      let a = made.others q h in
      let b = hung.rows.same q in
      record {
        number= = b.number= ∙ a.number=;
        owner= = b.owner= ∙ a.owner=;
        size= = b.size= ∙ a.size=;
        letter= = λ j. b.letter= j ∙ a.letter= j;
      }

  last_now : opens_new last ≡ v last + 1
  last_now = hung.rows.last= ∙ made.last!

  number_now : opens_new (number p) ≡ v last + 1
  number_now = (hung.rows.same p).number= ∙ made.number!

  owner_now : opens_new (owner p) ≡ owner_at v s
  owner_now = (hung.rows.same p).owner= ∙ made.owner!

  size_now : opens_new (size p) ≡ length suffix
  size_now = (hung.rows.same p).size= ∙ made.size!

  letter_now : (j : ℕ) → Range 1 64 j → opens_new (letter p j) ≡ get_or (folded suffix) (j - 1) 0
  letter_now j r = (hung.rows.same p).letter= j ∙ made.letter! j r

  used_now : used opens_new p ≡ true
  used_now = used_of opens_new p (λ z. bad number_now z)
    where
      bad : opens_new (number p) ≡ v last + 1 → opens_new (number p) ≡ 0 → ⊥
      bad a z = omega arith

  pub name_now : name_of opens_new p ≡ folded suffix
  unfolding name_of
  name_now =
      let l = length_folded suffix in
      let h = long.high in
      ap (λ (n : ℕ). take n (series 64 (λ j. opens_new (letter p j)))) (size_now ∙ sym l)
      ∙ series_take 64 (folded suffix) (λ j. opens_new (letter p j)) (omega arith) letter_now

  good_now : good_name opens_new p ≡ true
  unfolding good_name
  good_now =
      rw (
        name_now,
        name_folded suffix,
        name,
        is_folded_folded suffix,
        size_now,
        within_in 3 64 (length suffix) long.low long.high,
        dot_folded suffix,
      )
      dotted

  new_row : RowChanged v opens_new p
  new_row =
      record {
        row_zero= = λ q. hung.rows.row_zero= q ∙ made.row_zero= q;
        others = new_others;
        grown = let a = last_now in omega arith;
      }

  fill_now : (j : ℕ) → Range 1 64 j → opens_new (size p) < j → opens_new (letter p j) ≡ 0
  fill_now j r l =
      let a = size_now in
      let b = length_folded suffix in
      letter_now j r ∙ get_or-eq_default (folded suffix) 0 {n = j - 1} (omega arith)

  no_pair : (q : ℕ) → Range 1 80 q → q ≢ p → same_pair opens_new q p ≡ false
  no_pair q r h =
      fails (same_pair opens_new q p) (λ t.
      let w2 = pair_parts opens_new q p t in
      let o = new_others q h in
      false≢true
      (sym (none q r (sym (used= v opens_new q o) ∙ w2.left) (sym o.owner= ∙ w2.owners ∙ owner_now))
      ∙ same_of (name_of v q) suffix
      (ap folded (sym (name= v opens_new q o)) ∙ w2.folds ∙ ap folded name_now ∙ folded_folded suffix)))

  new_now : RowNow opens_new p
  new_now =
      record {
        bare = λ e. absurd (false≢true (sym e ∙ used_now));
        fill = fill_now;
        fits = let a = number_now in let b = last_now in omega arith;
        number_new = λ e q r h z.
            let a = (new_others q h).number= in
            let b = w.numbers_fit q r in
            let d = number_now in
            omega arith;
        name = λ e. good_now;
        pair_new = λ e. no_pair;
      }

  new_linked : Linked v opens_new s k p
  unfolding one
  new_linked =
      let l = live_now most v mid made.seats s k p w seat slot is_let free room in
      let z = (w.free_rows p row_in unused).tabs0 in
      let m = made.tabs= p in
      let d = hung.tabs! in
      record {
        row_in = row_in;
        tabs= = λ q h. hung.tabs= q h ∙ made.tabs= q;
        was = λ e. absurd (false≢true (sym free ∙ e));
        now = λ e. hung.row!;
        now_used = λ e. used_now;
        now_own = λ e. owner_now;
        others_hold = λ r j a b e g h.
            absurd (false≢true (sym unused ∙ ap (used v) (sym h) ∙ (w.tabs_hang r j a b g).live_row));
        moved =
            let a : one (points v p s k) ≡ 0 = ap one (points_free v p s k free) in
            let b : one (points opens_new p s k) ≡ 1 = ap one (points_is opens_new p s k l hung.row!) in
            omega arith;
        some = λ e. omega arith;
        none = λ e. absurd (false≢true (sym e ∙ used_now));
        lasts =
            let a = last_now in
            let b = w.last_fits in
            let e = opens_sum most v mid made.seats s k p w seat slot is_let free room in
            omega arith;
      }

  pub new_sound : Sound most opens_new
  new_sound =
      kept v opens_new s k (open_changed most v mid made.seats s k p w seat slot is_let free room) most p w
      (open_formed most v mid made.seats s k p w seat slot is_let free room)
      new_row new_now new_linked

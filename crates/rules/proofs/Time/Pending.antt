-- What a call does to what a tab has asked for and not had: for a cookie and for a document alike. Assumes nothing.
use Rattle.std.specs.Prelude.{ℕ, ◌≡◌, Bool, true, false, ◌&&◌, ◌≢◌, ◌⊎◌, List, [], ◌∷◌, get_or}
use Rattle.std.proofs.Math.Path.{refl}
use Rattle.std.proofs.Common.{sym, ap, ◌∙◌, inl, inr, ⊎_elim, arith}
use Rattle.std.proofs.Math.Bool.{and-false}
use Rattle.std.proofs.Math.Dec.{eqb}
use borrow.Author.Tests.{eq-eqb, ne_eqb}
use Rattle.terms.specs.Names.{num}
use Rattle.fields.specs.declared.mark.Mark.{Mark}
use Rattle.fields.specs.declared.mark.Mark.TheVariants.{Cookie, Document}
use Rattle.rules.specs.Rule.Call.{Call, step, event, actions, party_of, tag_of, id_of, is_frame, sends, reaches, asks}
use Rattle.rules.specs.Rule.Call.{pending}
use Rattle.rules.specs.Sheet.{Frame, framed}
use Rattle.rules.proofs.Laws.Happens.{From}

-- the tag of the event that asks, the party that it goes on to, the tag of the action that brings it
abbrev asking : Mark → ℕ
asking Cookie = 5
asking Document = 3

abbrev going : Mark → ℕ
going Cookie = 3
going Document = 4

abbrev coming : Mark → ℕ
coming Cookie = 7
coming Document = 6

-- two marks are the same or not
pub mark_or : (o m : Mark) → (o ≡ m) ⊎ (o ≢ m)
mark_or Cookie Cookie = inl refl
mark_or Cookie Document = inr (λ q. let e = ap asking q in omega arith)
mark_or Document Cookie = inr (λ q. let e = ap asking q in omega arith)
mark_or Document Document = inl refl

-- the tab of an id has asked for this, and has had none since
abbrev pub due : Mark → List Call → ℕ → Bool
due m cs i = pending (asking m) (going m) (coming m) cs i

-- ---- a call that neither asks nor brings

module _ (cs : List Call) (c : Call) where
  idle : (m : Mark) (i : ℕ) → sends 2 i (coming m) (actions c) ≡ false → asks (asking m) (going m) i c ≡ false
      → due m (c ∷ cs) i ≡ due m cs i
  unfolding pending
  idle m i h k = rw (h, k)

  unasked : (tag party i : ℕ) → reaches party (actions c) ≡ false → asks tag party i c ≡ false
  unfolding asks
  unasked tag party i h =
      rw h (and-false (eqb (party_of (event c)) 2 && eqb (tag_of (event c)) tag && eqb (id_of (event c)) i))

  -- its actions bring nothing and go on to nobody
  pub mute : ((i : ℕ) → sends 2 i 7 (actions c) ≡ false) → ((i : ℕ) → sends 2 i 6 (actions c) ≡ false)
      → reaches 3 (actions c) ≡ false → reaches 4 (actions c) ≡ false
      → (m : Mark) (i : ℕ) → due m (c ∷ cs) i ≡ due m cs i
  mute f g h k Cookie i = idle Cookie i (f i) (unasked 5 3 i h)
  mute f g h k Document i = idle Document i (g i) (unasked 3 4 i k)

-- ---- a tab's call

module _ (cs : List Call) (t b e : List ℕ) (n r : ℕ) (l : List Frame) (u : List ℕ) {tag i : ℕ} (f : From e 2 tag i) where
  abbrev c : Call
  c = step t b e n r l u

  -- it asks for itself
  asks_it : (party : ℕ) → reaches party l ≡ true → asks tag party i c ≡ true
  unfolding asks actions event party_of tag_of id_of
  asks_it party h =
      rw (eq-eqb _ 2 f.head.party=, eq-eqb _ tag f.head.tag=, eq-eqb _ i f.id, h)

  -- and for no other tab, nor by another tag
  asks_another : (party j : ℕ) → j ≢ i → asks tag party j c ≡ false
  unfolding asks actions event party_of tag_of id_of
  asks_another party j h =
      rw (ne_eqb (num e 1 4) j (λ q. h (sym q ∙ f.id)), and-false (eqb (get_or e 0 0) 2 && eqb (get_or e 5 0) tag))

  asks_else : (other party j : ℕ) → other ≢ tag → asks other party j c ≡ false
  unfolding asks actions event party_of tag_of id_of
  asks_else other party j h =
      rw (ne_eqb (get_or e 5 0) other (λ q. h (sym q ∙ f.head.tag=)), and-false (eqb (get_or e 0 0) 2))

-- ---- a call that asks, and one that brings

-- after this call it is so with this tab and this mark, and with any other as before
pub record MarkTurns (now : Bool) (m : Mark) (i : ℕ) (cs : List Call) (c : Call) : Type 0 where
  pub this : due m (c ∷ cs) i ≡ now
  pub rest : (o : Mark) (j : ℕ) → (o ≢ m) ⊎ (j ≢ i) → due o (c ∷ cs) j ≡ due o cs j

-- both of a tab and a mark are the same: so one is not another
other_tab : (m : Mark) {i j : ℕ} → (m ≢ m) ⊎ (j ≢ i) → j ≢ i
other_tab m h = ⊎_elim (λ (f : m ≢ m). absurd (f refl)) (λ f. f) h

module _ (cs : List Call) (t b e : List ℕ) (n r : ℕ) (u : List ℕ) where
  abbrev with : Frame → Call
  with a = step t b e n r (a ∷ []) u

  module _ (to tag : ℕ) (x : List ℕ) where
    asks_now : (m : Mark) {i : ℕ} → From e 2 (asking m) i → due m (with (framed (going m) to tag x) ∷ cs) i ≡ true
    unfolding pending actions sends is_frame reaches
    asks_now Cookie {i} f = rw (asks_it cs t b e n r (framed 3 to tag x ∷ []) u f 3 refl)
    asks_now Document {i} f = rw (asks_it cs t b e n r (framed 4 to tag x ∷ []) u f 4 refl)

    asks_rest : (m : Mark) {i : ℕ} → From e 2 (asking m) i → (o : Mark) (j : ℕ) → (o ≢ m) ⊎ (j ≢ i)
        → due o (with (framed (going m) to tag x) ∷ cs) j ≡ due o cs j
    unfolding actions sends is_frame reaches
    asks_rest Cookie f Cookie j h =
        idle cs _ Cookie j refl (asks_another cs t b e n r (framed 3 to tag x ∷ []) u f 3 j (other_tab Cookie h))
    asks_rest Cookie f Document j h = idle cs _ Document j refl (unasked cs _ 3 4 j refl)
    asks_rest Document f Cookie j h = idle cs _ Cookie j refl (unasked cs _ 5 3 j refl)
    asks_rest Document f Document j h =
        idle cs _ Document j refl (asks_another cs t b e n r (framed 4 to tag x ∷ []) u f 4 j (other_tab Document h))

    pub asked : (m : Mark) {i : ℕ} → From e 2 (asking m) i → MarkTurns true m i cs (with (framed (going m) to tag x))
    asked m f = record { this = asks_now m f; rest = asks_rest m f }

  module _ (i : ℕ) (x : List ℕ) where
    comes_now : (m : Mark) → due m (with (framed 2 i (coming m) x) ∷ cs) i ≡ false
    unfolding pending actions sends is_frame
    comes_now Cookie = rw (eq-eqb i i refl)
    comes_now Document = rw (eq-eqb i i refl)

    comes_rest : (m o : Mark) (j : ℕ) → (o ≢ m) ⊎ (j ≢ i) → due o (with (framed 2 i (coming m) x) ∷ cs) j ≡ due o cs j
    unfolding actions sends is_frame reaches
    comes_rest Cookie Cookie j h =
        idle cs _ Cookie j (rw (ne_eqb i j (λ q. other_tab Cookie h (sym q)))) (unasked cs _ 5 3 j refl)
    comes_rest Cookie Document j h = idle cs _ Document j refl (unasked cs _ 3 4 j refl)
    comes_rest Document Cookie j h = idle cs _ Cookie j refl (unasked cs _ 5 3 j refl)
    comes_rest Document Document j h =
        idle cs _ Document j (rw (ne_eqb i j (λ q. other_tab Document h (sym q)))) (unasked cs _ 3 4 j refl)

    pub brought : (m : Mark) → MarkTurns false m i cs (with (framed 2 i (coming m) x))
    brought m = record { this = comes_now m; rest = comes_rest m }

  -- a store goes to a process and asks for nothing
  pub stored : {i : ℕ} → From e 2 4 i → (to : ℕ) (x : List ℕ) (m : Mark) (j : ℕ)
      → due m (with (framed 3 to 1 x) ∷ cs) j ≡ due m cs j
  unfolding actions sends is_frame reaches
  stored f to x Cookie j =
      idle cs _ Cookie j refl (asks_else cs t b e n r (framed 3 to 1 x ∷ []) u f 5 3 j (λ q. omega arith))
  stored f to x Document j = idle cs _ Document j refl (unasked cs _ 3 4 j refl)

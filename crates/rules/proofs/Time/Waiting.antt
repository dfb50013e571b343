-- What a tab waits for: exactly what it asked for and has not had since. Assumes nothing.
use Rattle.std.specs.Prelude.{ℕ, ◌≡◌, refl, true, List, [], ◌∷◌}
use Rattle.std.proofs.Common.{sym, ◌∙◌}
use Rattle.std.proofs.lemmas.Bool.{false≢true}
use Rattle.terms.specs.Names.{sound_book}
use Rattle.fields.specs.Table.{view, sound_table, fresh}
use Rattle.fields.specs.declared.mark.Mark.TheVariants.{Cookie, Document}
use Rattle.fields.specs.Laws.Sound.{zero_free}
use Rattle.fields.specs.Laws.Fresh.{fresh_fields}
use Rattle.rules.specs.Rule.Call.{Call, step, actions, is_frame, sends, reaches, pending}
use Rattle.rules.specs.Rule.History.{History}
use Rattle.rules.specs.Rule.Ids.{DocumentDue, CookieDue}
use Rattle.rules.specs.Sheet.{Outcome}
use Rattle.rules.proofs.Laws.Happens.{Happens, nothing, joins, renews, selects, leaves, ends, types, points, paints}
use Rattle.rules.proofs.Laws.Happens.{sockets, fetches, stores, gets, denies, results, documents, refused_is, at_live}
use Rattle.rules.proofs.Time.Induct.{induct, history_sound}
use Rattle.rules.proofs.Time.Pending.{mute, asked, brought, stored}
use Rattle.rules.proofs.Time.Told.{Tells, silent, closes, picks, opened_tells, marks, unmarks}

told_fresh : (b : List ℕ) → sound_book b ≡ true → Tells [] (fresh b)
unfolding pending
told_fresh b o =
    record {
      tells = λ m s k l. absurd (false≢true (sym (zero_free (view (fresh b)) s k ((fresh_fields b o).tab0 s k).serial0) ∙ l));
      never = λ m i n. refl;
    }

-- a call without actions
told_idle : {cs : List Call} {t : List ℕ} {c : Call} → actions c ≡ [] → Tells cs t → Tells (c ∷ cs) t
unfolding sends reaches
told_idle e told = silent told (mute _ _ (λ i. rw e) (λ i. rw e) (rw e) (rw e))

told_step : {cs : List Call} {t : List ℕ} (b e : List ℕ) (n r : ℕ) {x : Outcome} → sound_table t ≡ true → Tells cs t
    → Happens t b e x
    → Tells (step t b e n r x.actions x.table ∷ cs) x.table
unfolding actions sends is_frame reaches
told_step {t = t} b e n r sound told (nothing m _) = rw (refused_is m t) (told_idle refl told)
told_step b e n r sound told (joins s w _) =
    silent (opened_tells told s _ w.takes) (mute _ _ (λ i. refl) (λ i. refl) refl refl)
told_step b e n r sound told (renews s w _) =
    silent (opened_tells told s _ w.takes) (mute _ _ (λ i. refl) (λ i. refl) refl refl)
told_step b e n r sound told (selects s k i _ _ a) =
    silent (picks told s k (at_live sound a)) (mute _ _ (λ i. refl) (λ i. refl) refl refl)
told_step b e n r sound told (leaves s i _ _ w _ _) = silent (closes told s w) (mute _ _ (λ i. refl) (λ i. refl) refl refl)
told_step b e n r sound told (ends s i _ _ w _ _) = silent (closes told s w) (mute _ _ (λ i. refl) (λ i. refl) refl refl)
told_step b e n r sound told (types s i _ _ _ _) = silent told (mute _ _ (λ i. refl) (λ i. refl) refl refl)
told_step b e n r sound told (points s i _ _ _) = silent told (mute _ _ (λ i. refl) (λ i. refl) refl refl)
told_step b e n r sound told (paints i s k _ _ _ _) = silent told (mute _ _ (λ i. refl) (λ i. refl) refl refl)
told_step b e n r sound told (sockets i s k _ _ _ _) = silent told (mute _ _ (λ i. refl) (λ i. refl) refl refl)
told_step b e n r sound told (fetches i s k f a _ w) = marks told Document sound a w (asked _ _ b e n r _ _ _ _ Document f)
told_step b e n r sound told (stores i s k f _ a _) = silent told (stored _ _ b e n r _ f _ _)
told_step b e n r sound told (gets i s k f a _ w) = marks told Cookie sound a w (asked _ _ b e n r _ _ _ _ Cookie f)
told_step b e n r sound told (denies tag i s k _ _ _) = silent told (mute _ _ (λ i. refl) (λ i. refl) refl refl)
told_step b e n r sound told (results p i s k _ _ a _ w) = unmarks told Cookie sound a w (brought _ _ b e n r _ i _ Cookie)
told_step b e n r sound told (documents i s k _ _ a w) = unmarks told Document sound a w (brought _ _ b e n r _ i _ Document)

told : {book : List ℕ} {cs : List Call} {t : List ℕ} → History book cs t → Tells cs t
unfolding actions
told h =
    induct (λ book cs t. Tells cs t)
    (record {
      fresh! = told_fresh;
      start! = λ h w b r. told_idle refl w;
      step! = λ b e n r h w x. told_step b e n r (history_sound h) w x;
    })
    h

pub history_cookie : {book : List ℕ} {cs : List Call} {t : List ℕ} → History book cs t → CookieDue cs t
history_cookie h s k l = (told h).tells Cookie s k l

pub history_document : {book : List ℕ} {cs : List Call} {t : List ℕ} → History book cs t → DocumentDue cs t
history_document h s k l = (told h).tells Document s k l

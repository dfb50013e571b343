-- Lettings and owners: every seat's record is as the book of the start orders it, so its owner is the one that the order form
-- gives, and the process of each of its tabs has that owner. Assumes nothing.
use Rattle.std.specs.Prelude.{ℕ, ◌≡◌, refl, true, List}
use Rattle.std.proofs.Common.{sym, ap₂, ◌∙◌}
use Rattle.terms.specs.Names.{orders, letting_of, tenant_of, options_of, owner_of, owner_by}
use Rattle.terms.specs.Base.{Range}
use Rattle.terms.specs.Laws.Order.{owner_by_is}
use Rattle.fields.specs.Table.{tenant, options, row, owner, view, live, owner_at}
use Rattle.fields.specs.Laws.Fresh.{fresh_tenant, fresh_options}
use Rattle.fields.specs.Laws.Sound.{owner_at_lem}
use Rattle.fields.specs.Laws.There.{live_there}
use Rattle.fields.specs.Laws.Table.{table_facts}
use Rattle.rules.specs.Rule.Call.{Call}
use Rattle.rules.specs.Rule.History.{History}
use Rattle.rules.specs.Sheet.{Outcome}
use Rattle.rules.proofs.Laws.Happens.{Happens, nothing, joins, renews, selects, leaves, ends, types, points, paints}
use Rattle.rules.proofs.Laws.Happens.{sockets, fetches, stores, gets, denies, results, documents, refused_is, at_live}
use Rattle.rules.proofs.Time.Induct.{induct, history_sound}
use Rattle.rules.proofs.Time.Rows.{SameHeads, OpenHeads, opened_heads, closed_heads, picked_rows, marked_rows}
use Rattle.rules.proofs.Time.Rows.{unmarked_rows}

-- ---- no call changes a letting

record SameLets (t u : List ℕ) : Type 0 where
  tenant= : (s : ℕ) → view u (tenant s) ≡ view t (tenant s)
  options= : (s : ℕ) → view u (options s) ≡ view t (options s)

module _ {t : List ℕ} where
  lets_same : SameLets t t
  lets_same = record { tenant= = λ s. refl; options= = λ s. refl }

  lets_open : {u : List ℕ} {s : ℕ} → OpenHeads t u s → SameLets t u
  lets_open w = record { tenant= = w.tenant=; options= = w.options= }

  lets_kept : {u : List ℕ} → SameHeads t u → SameLets t u
  lets_kept w = record { tenant= = w.tenant=; options= = w.options= }

lets_stay : {book : List ℕ} {cs : List Call} {t b e : List ℕ} {x : Outcome} → History book cs t → Happens t b e x
    → SameLets t x.table
lets_stay {t = t} g (nothing m z) = rw (refused_is m t) lets_same
lets_stay g (joins s w z) = lets_open (opened_heads _ s _ w.takes)
lets_stay g (renews s w z) = lets_open (opened_heads _ s _ w.takes)
lets_stay g (selects s k i fr ky a) = lets_kept (picked_rows _ s k (at_live (history_sound g) a)).heads
lets_stay g (leaves s i fr ky w a z) = lets_kept (closed_heads _ s w)
lets_stay g (ends s i fr ky w a z) = lets_kept (closed_heads _ s w)
lets_stay g (types s i fr _ _ a) = lets_same
lets_stay g (points s i fr _ a) = lets_same
lets_stay g (paints i s k fr _ a z) = lets_same
lets_stay g (sockets i s k fr _ a z) = lets_same
lets_stay g (fetches i s k fr a ok z) = lets_kept (marked_rows _ s k _ (at_live (history_sound g) a) z).heads
lets_stay g (stores i s k fr _ a ok) = lets_same
lets_stay g (gets i s k fr a ok z) = lets_kept (marked_rows _ s k _ (at_live (history_sound g) a) z).heads
lets_stay g (denies tag i s k fr a _) = lets_same
lets_stay g (results m i s k fr _ a z y) = lets_kept (unmarked_rows _ s k _ (at_live (history_sound g) a)).heads
lets_stay g (documents i s k fr _ a y) = lets_kept (unmarked_rows _ s k _ (at_live (history_sound g) a)).heads

-- ---- lettings

abbrev Tenants : List ℕ → List Call → List ℕ → Type 0
Tenants book cs t = (s : ℕ) → Range 1 8 s → view t (tenant s) ≡ tenant_of (letting_of s (orders book))

abbrev OptionsKept : List ℕ → List Call → List ℕ → Type 0
OptionsKept book cs t = (s : ℕ) → Range 1 8 s → view t (options s) ≡ options_of (letting_of s (orders book))

pub history_tenant : {book : List ℕ} {cs : List Call} {t : List ℕ} → History book cs t → (s : ℕ) → Range 1 8 s
    → view t (tenant s) ≡ tenant_of (letting_of s (orders book))
history_tenant =
    induct Tenants
    (record {
      fresh! = λ book e s r. fresh_tenant book e s r;
      start! = λ g h b r. h;
      step! = λ b e n r g h w s q. (lets_stay g w).tenant= s ∙ h s q;
    })

pub history_options : {book : List ℕ} {cs : List Call} {t : List ℕ} → History book cs t → (s : ℕ) → Range 1 8 s
    → view t (options s) ≡ options_of (letting_of s (orders book))
history_options =
    induct OptionsKept
    (record {
      fresh! = λ book e s r. fresh_options book e s r;
      start! = λ g h b r. h;
      step! = λ b e n r g h w s q. (lets_stay g w).options= s ∙ h s q;
    })

-- ---- owners

module _ {book : List ℕ} {cs : List Call} {t : List ℕ} (h : History book cs t) where
  pub history_owner : (s : ℕ) → Range 1 8 s → owner_at (view t) s ≡ owner_by book s
  history_owner s r =
      owner_at_lem (view t) s ∙ ap₂ (λ (a b : ℕ). owner_of s a b) (history_tenant h s r) (history_options h s r)
      ∙ sym (owner_by_is book s)

  -- the process of a live tab has the owner that the order form gives the tab's desk
  pub tab_owner : (s k : ℕ) → live (view t) s k ≡ true → view t (owner (view t (row s k))) ≡ owner_by book s
  tab_owner s k l =
      let r = live_there t s k l in
      ((table_facts t (history_sound h)).shows.tabs_hang s k r.0 r.1 l).own ∙ history_owner s r.0

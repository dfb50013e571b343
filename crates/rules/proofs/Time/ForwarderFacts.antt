-- The freight forwarder's history, its bytes, and what every table of it tells: whose processes the tabs are on, and that what was
-- stopped is not live. Assumes nothing.
use Rattle.std.specs.Prelude.{ℕ, ◌+◌, ◌≤◌, ◌≡◌, refl, true, false, ◌≢◌, List, length}
use Rattle.std.proofs.Common.{sym, ◌∙◌, arith}
use Rattle.std.proofs.Math.Path.{ap}
use Rattle.terms.specs.Text as Text
use Rattle.terms.specs.Forwarder.{forwarder, first as desk1, second as desk2, third as desk3, www_inside}
use Rattle.terms.specs.Base.{every, alike}
use Rattle.terms.specs.Laws.Bools.{fails}
use Rattle.fields.specs.Base.{one}
use Rattle.fields.specs.Table.{row, owner, view}
use Rattle.rules.specs.Rule.Call.{Call, times}
use Rattle.rules.specs.Rule.History.{History}
use Rattle.rules.specs.Rule.Ids.{tab_live, process_live}
use Rattle.rules.specs.Rule.Allow.{cookie_domain, goes_on, http, https, is_url}
use Rattle.rules.proofs.Laws.Forward.{domain_of}
use Rattle.rules.proofs.Time.Owner.{tab_owner}
use Rattle.rules.proofs.Time.Demand.{tab_hangs, pairs_apart_lem}
use Rattle.rules.proofs.Time.Stand.{history_tabs, history_processes}
use Rattle.rules.proofs.Time.Forwarder.{Stands}

-- ---- what is typed, whose cookie it is and which, what is fetched and what comes

abbrev pub small : List ℕ
small = Text.bytes "a.com"

abbrev pub capital : List ℕ
capital = Text.bytes "A.com"

abbrev pub www : List ℕ
www = Text.bytes "www.a.com"

abbrev pub crumb : List ℕ
crumb = Text.bytes "k=v"

abbrev pub url : List ℕ
url = Text.bytes "http://www.a.com/"

abbrev pub body : List ℕ
body = Text.bytes "hello"

pub stored_fits : 1 + length www + length crumb ≤ 4096
unfolding Text.bytes
stored_fits = omega arith

pub crumb_fits : 4 + length crumb ≤ 4096
unfolding Text.bytes
crumb_fits = omega arith

pub url_fits : length url ≤ 4096
unfolding Text.bytes
url_fits = omega arith

pub body_fits : 4 + length body ≤ 4096
unfolding Text.bytes
body_fits = omega arith

pub www_good : cookie_domain www small ≡ true
www_good = domain_of www small www_inside.name www_inside.inside

pub url_good : is_url url ≡ true
unfolding is_url goes_on http https every alike Text.bytes
url_good = refl

-- ---- what a table tells

module _ {cs : List Call} {t : List ℕ} (h : History forwarder cs t) where
  pub owner1 : Stands t 1 → view t (owner (view t (row 1 1))) ≡ 101
  owner1 a = tab_owner h 1 1 a.there ∙ desk1.owner=

  pub owner2 : Stands t 2 → view t (owner (view t (row 2 1))) ≡ 7
  owner2 a = tab_owner h 2 1 a.there ∙ desk2.owner=

  pub owner3 : Stands t 3 → view t (owner (view t (row 3 1))) ≡ 7
  owner3 a = tab_owner h 3 1 a.there ∙ desk3.owner=

  pub parted : Stands t 1 → Stands t 2 → view t (row 1 1) ≢ view t (row 2 1)
  parted a b e =
      let q = sym (owner1 a) ∙ ap (λ (p : ℕ). view t (owner p)) e ∙ owner2 b in omega arith

  pub shares : Stands t 2 → Stands t 3 → view t (row 2 1) ≡ view t (row 3 1)
  shares a b =
      pairs_apart_lem h (view t (row 2 1)) (view t (row 3 1)) (tab_hangs h 2 1 a.there) (tab_hangs h 3 1 b.there)
      (owner2 a ∙ sym (owner3 b)) (a.suffix= ∙ sym b.suffix=)

  -- what was stopped is not live
  pub tab_dead : (i : ℕ) → times 5 i 2 cs ≡ 1 → tab_live t i ≡ false
  unfolding one
  tab_dead i e =
      fails (tab_live t i) (λ l.
      let w = history_tabs h in
      let a = w.once i in
      let b = w.stand i in
      let d : one (tab_live t i) ≡ 1 = ap one l in
      omega arith)

  pub process_dead : (n : ℕ) → times 5 n 4 cs ≡ 1 → process_live t n ≡ false
  unfolding one
  process_dead n e =
      fails (process_live t n) (λ l.
      let w = history_processes h in
      let a = w.once n in
      let b = w.stand n in
      let d : one (process_live t n) ≡ 1 = ap one l in
      omega arith)

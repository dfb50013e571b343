-- A worked history, so that what is promised of every history is promised of something: the freight forwarder's. Desk 1 is let
-- with a cookie store of its own, desks 2 and 3 to the same tenant without. Desk 1 opens a.com, desk 2 A.com and desk 3 a.com; desk
-- 1's tab stores a cookie for www.a.com, asks for it and for a document, and is given both; desk 1 presses F12. Assumes nothing.
use Rattle.std.specs.Prelude.{ℕ, ◌≤◌, ◌≡◌, refl, Bool, true, false, ◌≢◌, List, [], ◌∷◌, length}
use Rattle.std.proofs.Common.{sym, ◌∙◌, arith, le_of_eq}
use Rattle.terms.specs.Text as Text
use Rattle.terms.specs.Forwarder.{forwarder, first as desk1, second as desk2, third as desk3, typed_small, typed_capital}
use Rattle.fields.specs.Base.{one, series}
use Rattle.fields.specs.Table.{row, owner, table_bytes, view, live, fresh, opened, waits}
use Rattle.fields.specs.declared.mark.Mark.{Mark}
use Rattle.fields.specs.declared.mark.Mark.TheVariants.{Cookie, Document}
use Rattle.fields.specs.Laws.Each.{range}
use Rattle.fields.specs.Laws.Series.{length_series}
use Rattle.rules.specs.Rule.Call.{Call, is_frame, among, times}
use Rattle.rules.specs.Rule.History.{History}
use Rattle.rules.specs.Rule.Ids.{tab_live, process_live}
use Rattle.rules.specs.Rule.Desk.{suffix_at}
use Rattle.rules.specs.Sheet.{Frame, room_needed}
use Rattle.rules.proofs.Time.Forwarder.{begun, opening, Idle, fresh_idle, first_open}
use Rattle.rules.proofs.Time.ForwarderTab.{own_first, own_opened}
use Rattle.rules.proofs.Time.ForwarderFacts.{small, capital, www, crumb, url, body, stored_fits, crumb_fits, url_fits, body_fits}
use Rattle.rules.proofs.Time.ForwarderFacts.{www_good, url_good, owner1, owner2, owner3, parted, shares, tab_dead, process_dead}
use Rattle.rules.proofs.Time.ForwarderSteps.{Stage, stores, gets, fetches, results, documents, closes}

pub record Worked : Type 0 where
  -- ---- the opens, the store and what is asked for
  pub calls : List Call
  pub table : List ℕ
  pub history : History forwarder calls table
  -- a tab on each of the three desks,
  pub first : live (view table) 1 1 ≡ true
  pub second : live (view table) 2 1 ≡ true
  pub third : live (view table) 3 1 ≡ true
  -- the first of which waits for a cookie and a document,
  pub waits1 : (m : Mark) → waits (view table) 1 1 m ≡ true
  -- all on one suffix,
  pub suffix1 : suffix_at table 1 1 ≡ Text.bytes "a.com"
  pub suffix2 : suffix_at table 2 1 ≡ Text.bytes "a.com"
  pub suffix3 : suffix_at table 3 1 ≡ Text.bytes "a.com"
  -- for two owners,
  pub owner1 : view table (owner (view table (row 1 1))) ≡ 101
  pub owner2 : view table (owner (view table (row 2 1))) ≡ 7
  pub owner3 : view table (owner (view table (row 3 1))) ≡ 7
  -- with a process each, the second of which has tabs on two desks
  pub apart : view table (row 1 1) ≢ view table (row 2 1)
  pub shared : view table (row 2 1) ≡ view table (row 3 1)
  -- ---- the result and the document
  pub result : Call
  pub page : Call
  pub answered : List ℕ
  pub answers : History forwarder (page ∷ result ∷ calls) answered
  -- a set and a get have gone to process 1, a fetch to the network,
  pub set_once : times 3 1 1 (page ∷ result ∷ calls) ≡ 1
  pub get_once : times 3 1 2 (page ∷ result ∷ calls) ≡ 1
  pub fetch_once : times 4 65537 1 (page ∷ result ∷ calls) ≡ 1
  -- a cookie and a document to desk 1's tab, which waits for nothing more
  pub cookie_once : times 2 65537 7 (page ∷ result ∷ calls) ≡ 1
  pub document_once : times 2 65537 6 (page ∷ result ∷ calls) ≡ 1
  pub rests : (m : Mark) → waits (view answered) 1 1 m ≡ false
  -- ---- the close
  pub close : Call
  pub left : List ℕ
  pub closing : History forwarder (close ∷ page ∷ result ∷ calls) left
  -- stops the tab and process 1, and neither is live any more,
  pub tab_stopped : times 5 65537 2 (close ∷ page ∷ result ∷ calls) ≡ 1
  pub process_stopped : times 5 1 4 (close ∷ page ∷ result ∷ calls) ≡ 1
  pub tab_gone : tab_live left 65537 ≡ false
  pub process_gone : process_live left 1 ≡ false
  -- while desks 2 and 3 share theirs as before
  pub second_left : live (view left) 2 1 ≡ true
  pub third_left : live (view left) 3 1 ≡ true
  pub shared_left : view left (row 2 1) ≡ view left (row 3 1)

-- ---- after the opens

each_mark : {cs : List Call} {t : List ℕ} {l : List Frame} {b : Bool} → Stage cs t l b b → (m : Mark)
    → waits (view t) 1 1 m ≡ b
each_mark g Cookie = g.cookie=
each_mark g Document = g.document=

since_opens : {cs : List Call} {t : List ℕ} (room : List ℕ) → room_needed ≤ length room → Stage cs t [] false false → Worked
unfolding opening among is_frame one
since_opens room enough opens =
    let stored = stores room enough opens www crumb www_good stored_fits in
    let asked = fetches room enough (gets room enough stored www www_good refl) url url_good url_fits refl in
    let answered = documents room enough (results room enough asked crumb crumb_fits refl) body body_fits refl in
    let closed = closes room enough answered in
    let h = asked.reach.history in
    let given = answered.reach.given in
    let stops = closed.reach.given in
    record {
      calls = _;
      table = _;
      history = h;
      first = asked.own.stands.there;
      second = asked.second.there;
      third = asked.third.there;
      waits1 = each_mark asked;
      suffix1 = asked.own.stands.suffix=;
      suffix2 = asked.second.suffix=;
      suffix3 = asked.third.suffix=;
      owner1 = owner1 h asked.own.stands;
      owner2 = owner2 h asked.second;
      owner3 = owner3 h asked.third;
      apart = parted h asked.own.stands asked.second;
      shared = shares h asked.second asked.third;
      result = _;
      page = _;
      answered = _;
      answers = answered.reach.history;
      set_once = given 3 1 1 refl;
      get_once = given 3 1 2 refl;
      fetch_once = given 4 65537 1 refl;
      cookie_once = given 2 65537 7 refl;
      document_once = given 2 65537 6 refl;
      rests = each_mark answered;
      close = _;
      left = _;
      closing = closed.reach.history;
      tab_stopped = stops 5 65537 2 refl;
      process_stopped = stops 5 1 4 refl;
      tab_gone = tab_dead closed.reach.history 65537 (stops 5 65537 2 refl);
      process_gone = process_dead closed.reach.history 1 (stops 5 1 4 refl);
      second_left = closed.second.there;
      third_left = closed.third.there;
      shared_left = shares closed.reach.history closed.second closed.third;
    }

-- ---- the tables of the opens

abbrev t0 : List ℕ
t0 = fresh forwarder

abbrev t1 : List ℕ
t1 = opened t0 1 small

abbrev t2 : List ℕ
t2 = opened t1 2 capital

-- ---- the opens, whatever the table held before and whatever the room is

pub worked_in : (lent room : List ℕ) → length lent ≡ table_bytes → room_needed ≤ length room → Worked
worked_in lent room long enough =
    let idle1 : Idle t0 1 = fresh_idle 1 (range (omega arith) (omega arith)) desk1.tenant= in
    let idle2 : Idle t0 2 = fresh_idle 2 (range (omega arith) (omega arith)) desk2.tenant= in
    let idle3 : Idle t0 3 = fresh_idle 3 (range (omega arith) (omega arith)) desk3.tenant= in
    let open1 = first_open room t0 1 small enough (begun lent long) idle1 typed_small in
    let open2 = first_open room t1 2 capital enough open1.reach (open1.idle 2 (λ z. omega arith) idle2) typed_capital in
    let open3 = first_open room t2 3 small enough open2.reach
    (open2.idle 3 (λ z. omega arith) (open1.idle 3 (λ z. omega arith) idle3)) typed_small in
    let quiet : (m : Mark) → waits (view (opened t2 3 small)) 1 1 m ≡ false
    = λ m. open3.waits= 1 (λ z. omega arith) m ∙ open2.waits= 1 (λ z. omega arith) m ∙ open1.new.waits= m in
    since_opens room enough
    (record {
      reach = open3.reach;
      own = own_opened open2.reach open3 (λ z. omega arith) desk3.owner=
          (own_opened open1.reach open2 (λ z. omega arith) desk2.owner= (own_first idle1 open1));
      second = open3.keeps 2 open2.stands;
      third = open3.stands;
      cookie= = quiet Cookie;
      document= = quiet Document;
    })

-- zeros for a table, zeros for a room
pub worked : Worked
worked =
    worked_in (series table_bytes (λ i. 0)) (series room_needed (λ i. 0)) (length_series table_bytes (λ i. 0))
    (le_of_eq (sym (length_series room_needed (λ i. 0))))

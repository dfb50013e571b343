-- The freight forwarder's history, what comes of desk 1's tab: it stores a cookie, asks for one and for a document, is given both,
-- and is closed, while the tabs of desks 2 and 3 stand. Assumes nothing.
use Rattle.std.specs.Prelude.{ℕ, ◌+◌, ◌≤◌, ◌≡◌, Bool, true, false, ◌≢◌, List, [], ◌∷◌, ◌++◌, length}
use Rattle.std.proofs.Common.{sym, ap, subst, ◌∙◌, inl, arith}
use Rattle.terms.specs.Base.{Range}
use Rattle.terms.specs.Text as Text
use Rattle.terms.specs.Forwarder.{forwarder, first as desk1}
use Rattle.fields.specs.Table.{row, tabs, view, sound_table}
use Rattle.fields.specs.Table.{Closable, TabLive, closed, waits, marked, unmarked}
use Rattle.fields.specs.declared.mark.Mark.{Mark}
use Rattle.fields.specs.declared.mark.Mark.TheVariants.{Cookie, Document}
use Rattle.fields.specs.Laws.Each.{range}
use Rattle.fields.specs.Laws.Waited.{marked_quiet, unmarked_quiet}
use Rattle.rules.specs.Rule.Desk.{TabAt}
use Rattle.rules.specs.Rule.Call.{Call}
use Rattle.rules.specs.Sheet.{Frame, be, framed, bytes, document, cookie, set, get, fetch, bar, stop_tab, stop_process, cookie_domain}
use Rattle.rules.specs.Sheet.{is_url, room_needed}
use Rattle.rules.proofs.Laws.Acts.{tab_at_lem}
use Rattle.rules.proofs.Laws.Happens.{did}
use Rattle.rules.proofs.Laws.Forward.{close_frame}
use Rattle.rules.proofs.Laws.ForwardTab.{store_frame, retrieve_frame, url_frame, result_frame, document_frame}
use Rattle.rules.proofs.Time.Induct.{history_sound}
use Rattle.rules.proofs.Time.Owner.{history_tenant}
use Rattle.rules.proofs.Time.Tabs.{closed_keeps}
use Rattle.rules.proofs.Time.Marks.{MarkedTo, marked_to, unmarked_to}
use Rattle.rules.proofs.Time.Forwarder.{Reached, call, next, among_both, Stands, stays_stands}
use Rattle.rules.proofs.Time.ForwarderTab.{Own, own_stays}

-- ---- while it is open: what was given since the opens, and what the tab waits for

pub record Stage (cs : List Call) (t : List ℕ) (l : List Frame) (cookie document : Bool) : Type 0 where
  pub reach : Reached cs t l
  pub own : Own t
  pub second : Stands t 2
  pub third : Stands t 3
  pub cookie= : waits (view t) 1 1 Cookie ≡ cookie
  pub document= : waits (view t) 1 1 Document ≡ document

-- after the close
pub record Closed (cs : List Call) (t : List ℕ) (l : List Frame) : Type 0 where
  pub reach : Reached cs t l
  pub second : Stands t 2
  pub third : Stands t 3

other_mark : Document ≢ Cookie
other_mark e = let z : ◌≡◌ {A = ℕ} 0 1 = cc in omega arith

module _ (room : List ℕ) (enough : room_needed ≤ length room) {cs : List Call} {t : List ℕ} {l : List Frame} {c d : Bool}
    (g : Stage cs t l c d) where
  sound : sound_table t ≡ true
  sound = history_sound g.reach.history

  here : TabLive t 1 1
  here = record { sound = sound; there = g.own.stands.there }

  tab : TabAt t 65537 1 1
  tab = subst (λ (i : ℕ). TabAt t i 1 1) g.own.id= (tab_at_lem t 1 1 sound g.own.stands.there)

  -- a mark is set, or cleared
  marks : {cs' : List Call} {u : List ℕ} {l' : List Frame} {b c' d' : Bool} {m : Mark} → Reached cs' u l'
      → MarkedTo b t u 1 1 m → ((p : ℕ) → view u (tabs p) ≡ view t (tabs p))
      → waits (view u) 1 1 Cookie ≡ c' → waits (view u) 1 1 Document ≡ d' → Stage cs' u l' c' d'
  marks {u = u} r w n a b =
      let still = w.marks.still in
      record {
        reach = r;
        own = own_stays (still.tab 1 1 g.own.stands.there) (n (view t (row 1 1))) (w.marks.chosen= 1) g.own;
        second = stays_stands t u 2 (still.tab 2 1 g.second.there) g.second;
        third = stays_stands t u 3 (still.tab 3 1 g.third.there) g.third;
        cookie= = a;
        document= = b;
      }

  -- the tab stores a cookie,
  pub stores : (domain x : List ℕ) → cookie_domain domain (Text.bytes "a.com") ≡ true → 1 + length domain + length x ≤ 4096
      → Stage (call room t (bytes (framed 2 65537 4 (be 1 (length domain) ++ (domain ++ x)))) t ∷ cs) t (set 1 domain x ∷ l) c d
  stores domain x ok short =
      let q = store_frame t tab (length room) forwarder enough sound (omega arith) domain x
      (ap (cookie_domain domain) g.own.stands.suffix= ∙ ok) short
      ∙ ap (λ (n : ℕ). did (set n domain x ∷ []) t) g.own.process= in
      record {
        reach = next room _ g.reach q (λ p i k h. among_both (set 1 domain x ∷ []) l p i k);
        own = g.own;
        second = g.second;
        third = g.third;
        cookie= = g.cookie=;
        document= = g.document=;
      }

  -- asks for one,
  pub gets : (domain : List ℕ) → cookie_domain domain (Text.bytes "a.com") ≡ true → c ≡ false
      → Stage (call room t (bytes (framed 2 65537 5 domain)) (marked t 1 1 Cookie) ∷ cs) (marked t 1 1 Cookie)
      (get 1 65537 domain ∷ l) true d
  gets domain ok z =
      let quiet = g.cookie= ∙ z in
      let w = marked_to t 1 1 Cookie here quiet in
      let q = retrieve_frame t tab (length room) forwarder enough sound (omega arith) domain
      (ap (cookie_domain domain) g.own.stands.suffix= ∙ ok) quiet
      ∙ ap (λ (n : ℕ). did (get n 65537 domain ∷ []) (marked t 1 1 Cookie)) g.own.process= in
      marks (next room _ g.reach q (λ p i k h. among_both (get 1 65537 domain ∷ []) l p i k)) w
      (marked_quiet t 1 1 here Cookie quiet).tabs= w.marked= (w.other_mark Document other_mark ∙ g.document=)

  -- and for a document;
  pub fetches : (u : List ℕ) → is_url u ≡ true → length u ≤ 4096 → d ≡ false
      → Stage (call room t (bytes (framed 2 65537 3 u)) (marked t 1 1 Document) ∷ cs) (marked t 1 1 Document)
      (fetch 65537 u ∷ l) c true
  fetches u ok short z =
      let quiet = g.document= ∙ z in
      let w = marked_to t 1 1 Document here quiet in
      let q = url_frame t tab (length room) forwarder enough sound (omega arith) u ok quiet short in
      marks (next room _ g.reach q (λ p i k h. among_both (fetch 65537 u ∷ []) l p i k)) w
      (marked_quiet t 1 1 here Document quiet).tabs= (w.other_mark Cookie (λ e. other_mark (sym e)) ∙ g.cookie=) w.marked=

  -- the cookie comes,
  pub results : (x : List ℕ) → 4 + length x ≤ 4096 → c ≡ true
      → Stage (call room t (bytes (framed 3 1 1 (be 4 65537 ++ x))) (unmarked t 1 1 Cookie) ∷ cs) (unmarked t 1 1 Cookie)
      (cookie 65537 x ∷ l) false d
  results x short z =
      let due = g.cookie= ∙ z in
      let w = unmarked_to t 1 1 Cookie here due in
      let q = result_frame t tab (length room) forwarder enough sound (omega arith) 1 x g.own.process= (omega arith) due short in
      marks (next room _ g.reach q (λ p i k h. among_both (cookie 65537 x ∷ []) l p i k)) w
      (unmarked_quiet t 1 1 here Cookie).tabs= w.marked= (w.other_mark Document other_mark ∙ g.document=)

  -- and the document;
  pub documents : (x : List ℕ) → 4 + length x ≤ 4096 → d ≡ true
      → Stage (call room t (bytes (framed 4 0 1 (be 4 65537 ++ x))) (unmarked t 1 1 Document) ∷ cs) (unmarked t 1 1 Document)
      (document 65537 x ∷ l) c false
  documents x short z =
      let due = g.document= ∙ z in
      let w = unmarked_to t 1 1 Document here due in
      let q = document_frame t tab (length room) forwarder enough sound (omega arith) x due short in
      marks (next room _ g.reach q (λ p i k h. among_both (document 65537 x ∷ []) l p i k)) w
      (unmarked_quiet t 1 1 here Document).tabs= (w.other_mark Cookie (λ e. other_mark (sym e)) ∙ g.cookie=) w.marked=

  -- and desk 1 presses F12
  pub closes : Closed (call room t (bytes (framed 1 1 1 (be 1 25))) (closed t 1) ∷ cs) (closed t 1)
      (stop_tab 65537 ∷ stop_process 1 ∷ bar 1 [] ∷ l)
  closes =
      let o = g.own in
      let chosen = o.chosen in
      let seat : Range 1 8 1 = range (omega arith) (omega arith) in
      let tenant= = history_tenant g.reach.history 1 seat ∙ desk1.tenant= in
      let w : Closable t 1 = record { sound = sound; seat = seat; picked = λ z. omega arith } in
      let q = close_frame t w chosen o.id= o.process= o.alone (length room) forwarder enough (λ z. omega arith) in
      record {
        reach = next room _ g.reach q (λ p i k h. among_both (stop_tab 65537 ∷ stop_process 1 ∷ bar 1 [] ∷ []) l p i k);
        second = stays_stands t (closed t 1) 2 (closed_keeps t 1 w 2 1 g.second.there (inl (λ z. omega arith))) g.second;
        third = stays_stands t (closed t 1) 3 (closed_keeps t 1 w 3 1 g.third.there (inl (λ z. omega arith))) g.third;
      }

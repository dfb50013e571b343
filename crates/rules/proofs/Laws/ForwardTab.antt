-- What a step does, said forward: a cookie that a tab may store or ask for, a URL that it may ask for, and the cookie and the
-- document that it waits for. Assumes nothing.
use Rattle.std.specs.Prelude.{ℕ, ◌+◌, ◌≤◌, ◌<◌, ◌≡◌, true, false, List, [], ◌∷◌, ◌++◌, Some}
use Rattle.std.proofs.Math.Path.{ap, ap₂}
use Rattle.std.proofs.Common.{◌∙◌, arith, length-append, eq-eqb, ne_eqb}
use Rattle.std.proofs.Math.ListN.{length}
use Rattle.fields.specs.Table.{row, view, sound_table, process_of, waits, marked, unmarked}
use Rattle.fields.specs.declared.mark.Mark.TheVariants.{Cookie, Document}
use Rattle.fields.specs.Laws.Asked.{live_used}
use Rattle.fields.specs.Laws.Find.{process_found}
use Rattle.fields.specs.Laws.There.{used_there}
use Rattle.rules.specs.Rule.Frame.{be, framed, bytes}
use Rattle.rules.specs.Rule.Action.{document, cookie, set, get, fetch}
use Rattle.rules.specs.Rule.Event.{reading_of}
use Rattle.rules.specs.Rule.Desk.{desk, desk_at, changed, reply, process_at, suffix_at, TabAt}
use Rattle.rules.specs.Rule.Allow.{cookie_domain, is_url}
use Rattle.rules.specs.Rule.Tab.{ask, url_rule, store_rule, retrieve_rule, tab_rule, result_rule, document_rule}
use Rattle.rules.specs.Rule.Step.{made, at_tab, event_rule, room_needed, step_of}
use Rattle.rules.specs.declared.event.Event.TheVariants.{Tab}
use Rattle.rules.specs.declared.event.TabMessage.{TabMessage}
use Rattle.rules.proofs.Laws.Frame.{length_be}
use Rattle.rules.proofs.Laws.Reads.{frame_reads, all_of_lem, tab_of_lem, body_of, stored_size, stored_domain, stored_cookie}
use Rattle.rules.proofs.Laws.Fits.{url_reads, store_reads, retrieve_reads, result_reads, document_reads}
use Rattle.rules.proofs.Laws.Tab.{domain_length}
use Rattle.rules.proofs.Laws.Happens.{did, at_live}
use Rattle.rules.proofs.Laws.Forward.{step_reads}

-- the tab of id i is the live one in slot k of seat s
module _ (t : List ℕ) {i s k : ℕ} (w : TabAt t i s k) where
  -- ---- what a rule makes of the table

  store_made : (domain x : List ℕ) → cookie_domain domain (suffix_at t s k) ≡ true
      → made t s (store_rule (desk_at t s) k domain x) ≡ did (set (process_at t s k) domain x ∷ []) t
  unfolding store_rule ask desk reply made changed
  store_made domain x h = rw h

  retrieve_made : (domain : List ℕ) → cookie_domain domain (suffix_at t s k) ≡ true → waits (view t) s k Cookie ≡ false
      → made t s (retrieve_rule (desk_at t s) k domain) ≡ did (get (process_at t s k) i domain ∷ []) (marked t s k Cookie)
  unfolding retrieve_rule ask desk reply made changed
  retrieve_made domain h q = rw (h, q, w.id)

  url_made : (u : List ℕ) → is_url u ≡ true → waits (view t) s k Document ≡ false
      → made t s (url_rule (desk_at t s) k u) ≡ did (fetch i u ∷ []) (marked t s k Document)
  unfolding url_rule ask desk reply made changed
  url_made u h q = rw (h, q, w.id)

  result_made : (n : ℕ) (x : List ℕ) → process_at t s k ≡ n → waits (view t) s k Cookie ≡ true
      → made t s (result_rule (desk_at t s) n k x) ≡ did (cookie i x ∷ []) (unmarked t s k Cookie)
  unfolding result_rule desk reply made changed
  result_made n x h q = rw (eq-eqb (process_at t s k) n h, q, w.id)

  document_made : (x : List ℕ) → waits (view t) s k Document ≡ true
      → made t s (document_rule (desk_at t s) k x) ≡ did (document i x ∷ []) (unmarked t s k Document)
  unfolding document_rule desk reply made changed
  document_made x q = rw (q, w.id)

  -- ---- an event that is a frame's bytes, in a sound table and with room enough

  module _ (room : ℕ) (b : List ℕ) (enough : room_needed ≤ room) (sound : sound_table t ≡ true) (small : i < 4294967296) where
    tab_does : (e : List ℕ) (m : TabMessage) → reading_of e ≡ Some (Tab i m)
        → step_of room t b e ≡ made t s (tab_rule (desk_at t s) b e k m)
    unfolding event_rule at_tab
    tab_does e m h = rw (step_reads room t b e enough sound (Tab i m) h, w.place)

    -- the tab stores a cookie
    pub store_frame : (domain x : List ℕ) → cookie_domain domain (suffix_at t s k) ≡ true → 1 + length domain + length x ≤ 4096
        → step_of room t b (bytes (framed 2 i 4 (be 1 (length domain) ++ (domain ++ x))))
        ≡ did (set (process_at t s k) domain x ∷ []) t
    unfolding tab_rule
    store_frame domain x h short =
        let y = be 1 (length domain) ++ (domain ++ x) in
        let e = bytes (framed 2 i 4 y) in
        let few = domain_length domain (suffix_at t s k) h in
        let long : length y ≡ 1 + length domain + length x = simp (length-append, length_be) (omega arith) in
        let r = frame_reads 2 i 4 y (omega arith) small (omega arith) (omega arith) in
        let n = stored_size domain x r (omega arith) in
        tab_does e _ (store_reads e i y r (omega arith))
        ∙ ap₂ (λ a c. made t s (store_rule (desk_at t s) k a c)) (stored_domain domain x r (omega arith))
        (stored_cookie domain x r (omega arith))
        ∙ store_made domain x h

    -- it asks for the cookie of a domain
    pub retrieve_frame : (domain : List ℕ) → cookie_domain domain (suffix_at t s k) ≡ true → waits (view t) s k Cookie ≡ false
        → step_of room t b (bytes (framed 2 i 5 domain)) ≡ did (get (process_at t s k) i domain ∷ []) (marked t s k Cookie)
    unfolding tab_rule
    retrieve_frame x h q =
        let e = bytes (framed 2 i 5 x) in
        let few = domain_length x (suffix_at t s k) h in
        let r = frame_reads 2 i 5 x (omega arith) small (omega arith) (omega arith) in
        tab_does e _ (retrieve_reads e i x r)
        ∙ ap (λ y. made t s (retrieve_rule (desk_at t s) k y)) (all_of_lem r) ∙ retrieve_made x h q

    -- it asks for a document
    pub url_frame : (u : List ℕ) → is_url u ≡ true → waits (view t) s k Document ≡ false → length u ≤ 4096
        → step_of room t b (bytes (framed 2 i 3 u)) ≡ did (fetch i u ∷ []) (marked t s k Document)
    unfolding tab_rule
    url_frame x h q short =
        let e = bytes (framed 2 i 3 x) in
        let r = frame_reads 2 i 3 x (omega arith) small (omega arith) short in
        tab_does e _ (url_reads e i x r)
        ∙ ap (λ y. made t s (url_rule (desk_at t s) k y)) (all_of_lem r) ∙ url_made x h q

    -- its process gives it a cookie
    pub result_frame : (n : ℕ) (x : List ℕ) → process_at t s k ≡ n → n < 4294967296 → waits (view t) s k Cookie ≡ true
        → 4 + length x ≤ 4096
        → step_of room t b (bytes (framed 3 n 1 (be 4 i ++ x))) ≡ did (cookie i x ∷ []) (unmarked t s k Cookie)
    unfolding event_rule at_tab
    result_frame n x h fits q short =
        let y = be 4 i ++ x in
        let e = bytes (framed 3 n 1 y) in
        let u = live_used (at_live sound w) in
        let p = view t (row s k) in
        let long : length y ≡ 4 + length x = simp (length-append, length_be) in
        let r = frame_reads 3 n 1 y (omega arith) fits (omega arith) (omega arith) in
        step_reads room t b e enough sound _ (result_reads e n y r (omega arith))
        ∙ rw (ne_eqb (process_of (view t) n) 0 (process_found (view t) p n (used_there t p u) u h), tab_of_lem i x r small, w.place)
        (ap (λ z. made t s (result_rule (desk_at t s) n k z)) (body_of i x r) ∙ result_made n x h q)

    -- the network gives it a document
    pub document_frame : (x : List ℕ) → waits (view t) s k Document ≡ true → 4 + length x ≤ 4096
        → step_of room t b (bytes (framed 4 0 1 (be 4 i ++ x))) ≡ did (document i x ∷ []) (unmarked t s k Document)
    unfolding event_rule at_tab
    document_frame x q short =
        let y = be 4 i ++ x in
        let e = bytes (framed 4 0 1 y) in
        let long : length y ≡ 4 + length x = simp (length-append, length_be) in
        let r = frame_reads 4 0 1 y (omega arith) (omega arith) (omega arith) (omega arith) in
        step_reads room t b e enough sound _ (document_reads e 0 y r (omega arith))
        ∙ rw (tab_of_lem i x r small, w.place)
        (ap (λ z. made t s (document_rule (desk_at t s) k z)) (body_of i x r) ∙ document_made x q)

-- What a call passes on, outcome by outcome: cookies between a tab and the process that it hangs on, requests and sockets inside
-- what was typed for the tab, paint from the selected tab, documents that were asked for. Assumes nothing.
use Rattle.std.specs.Prelude.{ℕ, ◌≡◌, true, List, [], ◌++◌}
use Rattle.std.proofs.Math.Path.{refl, sym, ap}
use Rattle.std.proofs.Common.{◌∙◌, arith}
use Rattle.std.proofs.Math.ListN.{drop}
use Rattle.terms.specs.Names.{folded, num}
use Rattle.fields.specs.Table.{selected, view}
use Rattle.fields.specs.Laws.There.{live_there}
use Rattle.rules.specs.Rule.Call.{Call, step, start, table, event, actions, Past, party_of, id_of, Every, none, more}
use Rattle.rules.specs.Rule.Call.{given, pending}
use Rattle.rules.specs.Rule.History.{History}
use Rattle.rules.specs.Rule.Demand.{Ways, Way}
use Rattle.rules.specs.Rule.Quark.{Socketed, Sockets, Requests, Cookies, Painted, Display}
use Rattle.rules.specs.Rule.Ids.{Documents}
use Rattle.rules.specs.Rule.Desk.{id_at, suffix_at}
use Rattle.rules.specs.Sheet.{be, Outcome}
use Rattle.rules.proofs.Laws.Allow.{cookie_inside, socket_inside}
use Rattle.rules.proofs.Laws.Happens.{domain_in, cookie_in, Happens, refused_is, nothing, joins, renews, selects}
use Rattle.rules.proofs.Laws.Happens.{leaves, ends, types, points, paints, sockets, fetches, stores, gets, denies, results}
use Rattle.rules.proofs.Laws.Happens.{documents}
use Rattle.rules.proofs.Time.Induct.{Each, each_call}
use Rattle.rules.proofs.Time.Suffix.{inside_typed}
use Rattle.rules.proofs.Time.Waiting.{history_document}
use Rattle.rules.proofs.Time.Hung.{requested, returned}

record Passed (book : List ℕ) (earlier : List Call) (c : Call) : Type 0 where
  way : Way book earlier c
  requests : Requests earlier c
  sockets : Every (Socketed earlier c) (given 5 5 (actions c))
  paints : Every (Painted c) (given 1 2 (actions c))
  documents : Every (λ a. pending 3 4 6 earlier a.id ≡ true) (given 2 6 (actions c))

module _ {book : List ℕ} {cs : List Call} {t : List ℕ} (h : History book cs t) where
  -- a call that passes nothing on
  silent : (c : Call) → given 3 1 (actions c) ≡ [] → given 3 2 (actions c) ≡ [] → given 2 7 (actions c) ≡ []
      → given 5 5 (actions c) ≡ [] → given 1 2 (actions c) ≡ [] → given 2 6 (actions c) ≡ [] → Passed book cs c
  silent c a b d e f g =
      record {
        way = record { sets = rw a none; gets = rw b none; results = rw d none };
        requests = record { stores = rw a none; retrieves = rw b none };
        sockets = rw e none;
        paints = rw f none;
        documents = rw g none;
      }

  happens : (b e : List ℕ) (n r : ℕ) {x : Outcome} → Happens t b e x → Passed book cs (step t b e n r x.actions x.table)
  unfolding given table event actions party_of id_of
  happens b e n r (nothing m z) = rw (refused_is m t) (silent _ refl refl refl refl refl refl)
  happens b e n r (joins s w z) = silent _ refl refl refl refl refl refl
  happens b e n r (renews s w z) = silent _ refl refl refl refl refl refl
  happens b e n r (selects s k i f ky a) = silent _ refl refl refl refl refl refl
  happens b e n r (leaves s i f ky w a z) = silent _ refl refl refl refl refl refl
  happens b e n r (ends s i f ky w a z) = silent _ refl refl refl refl refl refl
  happens b e n r (types s i f _ _ a) = silent _ refl refl refl refl refl refl
  happens b e n r (points s i f _ a) = silent _ refl refl refl refl refl refl
  happens b e n r (paints i s k f _ a z) =
      record {
        way = record { sets = none; gets = none; results = none };
        requests = record { stores = none; retrieves = none };
        sockets = none;
        paints =
            more
            (record {
              by_tab = f.head.party=;
              chosen = λ (g : view t (selected s) ≡ 0). let l = (live_there t s k a.there).1.low in omega arith;
              by = f.id ∙ sym a.id ∙ ap (id_at t s) (sym z);
            })
            none;
        documents = none;
      }
  happens b e n r (sockets i s k f _ a z) =
      let o = socket_inside (num e 10 2) (drop 12 e) (suffix_at t s k) z in
      record {
        way = record { sets = none; gets = none; results = none };
        requests = record { stores = none; retrieves = none };
        sockets =
            more
            (record {
              port = num e 10 2;
              host = drop 12 e;
              carries = refl;
              by_tab = f.head.party=;
              by = f.id;
              name = o.named;
              inside = inside_typed i s k (drop 12 e) h a o.inside;
            })
            none;
        paints = none;
        documents = none;
      }
  happens b e n r (fetches i s k f a ok z) = silent _ refl refl refl refl refl refl
  happens b e n r (stores i s k f _ a ok) =
      let o = cookie_inside (domain_in e) (suffix_at t s k) ok in
      record {
        way = record { sets = more (requested h b e n r _ _ f a refl) none; gets = none; results = none };
        requests =
            record {
              stores =
                  more
                  (record {
                    domain = domain_in e;
                    cookie = cookie_in e;
                    carries = refl;
                    name = o.named;
                    inside = rw f.id (inside_typed i s k (domain_in e) h a o.inside);
                  })
                  none;
              retrieves = none;
            };
        sockets = none;
        paints = none;
        documents = none;
      }
  happens b e n r (gets i s k f a ok z) =
      let o = cookie_inside (drop 10 e) (suffix_at t s k) ok in
      record {
        way = record { sets = none; gets = more (requested h b e n r _ _ f a refl) none; results = none };
        requests =
            record {
              stores = none;
              retrieves =
                  more
                  (record {
                    domain = drop 10 e;
                    carries = ap (λ (j : ℕ). be 4 j ++ folded (drop 10 e)) (sym f.id);
                    name = o.named;
                    inside = rw f.id (inside_typed i s k (drop 10 e) h a o.inside);
                  })
                  none;
            };
        sockets = none;
        paints = none;
        documents = none;
      }
  happens b e n r (denies tag i s k f a d) = silent _ refl refl refl refl refl refl
  happens b e n r (results m i s k f _ a z y) =
      record {
        way = record { sets = none; gets = none; results = more (returned h b e n r _ _ _ f a z y) none };
        requests = record { stores = none; retrieves = none };
        sockets = none;
        paints = none;
        documents = none;
      }
  happens b e n r (documents i s k f _ a y) =
      record {
        way = record { sets = none; gets = none; results = none };
        requests = record { stores = none; retrieves = none };
        sockets = none;
        paints = none;
        documents = more (ap (pending 3 4 6 cs) (sym a.id) ∙ sym (history_document h s k a.there) ∙ y) none;
      }

-- ---- of every call that was made

each : Each (λ (book : List ℕ) (earlier : List Call) (c : Call). Passed book earlier c)
unfolding given actions
each =
    record {
      start! = λ {t = t} h b r. silent h (start t b r t) refl refl refl refl refl refl;
      step! = λ b e n r h w. happens h b e n r w;
    }

module _ {book : List ℕ} {cs : List Call} {t : List ℕ} (h : History book cs t) where
  passed : (c : Call) (earlier : List Call) → Past c earlier cs → Passed book earlier c
  passed = each_call (λ book earlier c. Passed book earlier c) each h

  pub history_way : Ways book cs
  history_way c earlier p = (passed c earlier p).way

  pub history_cookies : Cookies cs
  history_cookies c earlier p = (passed c earlier p).requests

  pub history_sockets : Sockets cs
  history_sockets c earlier p = (passed c earlier p).sockets

  pub history_display : Display cs
  history_display c earlier p = (passed c earlier p).paints

  pub history_documents : Documents cs
  history_documents c earlier p = (passed c earlier p).documents

-- How the exits of a rule's function come to what Replied and Decided say. Assumes nothing.
use Rattle.std.specs.Prelude.{ℕ, ◌≡◌, refl, List, [], length, Option, Some, None, Result, Err}
use Rattle.std.specs.Option.{ok_or}
use Rattle.std.proofs.lemmas.Option.{none-some}
use Rattle.std.proofs.Common.{sym, subst, arith}
use Rattle.rules.specs.Rule.Frame.{Frame, frames}
use Rattle.rules.specs.Rule.Desk.{Change, stay, changed, Reply, refuse, reply}
use Rattle.rules.specs.Rule.Step.{Outcome, refused, made}
use Rattle.rules.specs.Rule.Refusal.{number_of}
use Rattle.rules.specs.Held.{Sent, Says, Replied, Decided}
use Rattle.rules.proofs.Laws.Over.{over_nothing}
use Rattle.rules.proofs.Laws.Frame.{length_frames}
use Rattle.rules.specs.declared.verdict.Done.{Done}
use Rattle.rules.specs.declared.verdict.Refusal.{Refusal}

-- ---- a rule's function

-- why there is a refusal where `ok_or` finds nothing
pub none_is : {A : Type 0} {o : Option A} {e why : Refusal} → Err e ≡ ok_or o why → o ≡ None → e ≡ why
none_is {o = None} p q = cc
none_is {o = Some x} p q = absurd (none-some x (sym q))

refused_says : (why : Refusal) → Says (number_of why) 0 0 (Err why)
refused_says why = record { number= = refl; actions= = refl; written= = refl }

-- a refusal changes nothing
pub replied_refused : {t o : List ℕ} {s : ℕ} {r : Reply} (why : Refusal) → r ≡ refuse (number_of why)
    → Replied t s r o t o (Err why)
unfolding refuse frames changed
replied_refused {t} {o} {s} {r} why e =
    subst (λ (y : Reply). Replied t s y o t o (Err why)) (sym e)
    (record { says = refused_says why; table = refl; room = sym (over_nothing o 0) })

-- no action
pub replied_idle : {t o : List ℕ} {s : ℕ} {d : Result Done Refusal} {r : Reply} → r ≡ reply [] stay → Says 0 0 0 d → Replied t s r o t o d
unfolding reply frames changed
replied_idle {t} {o} {s} {d} {r} e w =
    subst (λ (y : Reply). Replied t s y o t o d) (sym e) (record { says = w; table = refl; room = sym (over_nothing o 0) })

-- actions and a change
pub replied_done : {t o t' o' : List ℕ} {s n : ℕ} {r : Reply} {l : List Frame} {d : Result Done Refusal} (c : Change) → r ≡ reply l c
    → Sent o 0 l o' n → t' ≡ changed t s c → Says 0 (length l) n d → Replied t s r o t' o' d
unfolding reply
replied_done {t} {o} {t'} {o'} {s} {n} {r} {l} {d} c e w f y =
    subst (λ (r : Reply). Replied t s r o t' o' d) (sym e)
    (record {
      says =
          record {
            number= = y.number=;
            actions= = y.actions=;
            written= = let a = w.next in let b = length_frames l in let k = y.written= in omega arith;
          };
      table = f;
      room = w.bytes;
    })

-- ---- an event's function

pub decided_refused : {t o : List ℕ} {x : Outcome} (why : Refusal) → x ≡ refused (number_of why) t → Decided x o t o (Err why)
unfolding refused frames
decided_refused {t} {o} {x} why e =
    subst (λ (y : Outcome). Decided y o t o (Err why)) (sym e)
    (record { says = refused_says why; table = refl; room = sym (over_nothing o 0) })

pub decided_replied : {t o t' o' : List ℕ} {s : ℕ} {r : Reply} {d : Result Done Refusal} {x : Outcome} → x ≡ made t s r
    → Replied t s r o t' o' d
    → Decided x o t' o' d
unfolding made
decided_replied {t} {o} {t'} {o'} {s} {r} {d} {x} e w =
    subst (λ (y : Outcome). Decided y o t' o' d) (sym e) (record { says = w.says; table = w.table; room = w.room })

-- Whence every action of every call came. Assumes nothing.
use Rattle.std.specs.Prelude.{ℕ, ◌≡◌, refl, true, List}
use Rattle.terms.specs.Base.{Bytes}
use Rattle.rules.specs.Rule.Call.{Call, table, book, event, actions, Every, none, kinds_apart}
use Rattle.rules.specs.Rule.History.{History}
use Rattle.rules.specs.Rule.Whence.{Whence, Whences, Lone}
use Rattle.rules.proofs.Laws.Actions.{all_whence, all_apart}
use Rattle.rules.proofs.Time.Induct.{each_call, history_sound}

pub history_whence : {book : List ℕ} {cs : List Call} {t : List ℕ} → History book cs t → Whences cs
unfolding table book event actions
history_whence =
    each_call (λ start earlier c. Bytes (event c) → Every (Whence (table c) (book c) (event c)) (actions c))
    (record { start! = λ h b r g. none; step! = λ b e n r h x g. all_whence _ b e (history_sound h) g x })

pub history_lone : {book : List ℕ} {cs : List Call} {t : List ℕ} → History book cs t → Lone cs
unfolding actions kinds_apart
history_lone =
    each_call (λ start earlier c. kinds_apart (actions c) ≡ true)
    (record { start! = λ h b r. refl; step! = λ b e n r h x. all_apart x })

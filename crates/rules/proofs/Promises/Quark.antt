-- What the Quark paper promises of its kernel, for every history of ours. What each says stands under its name in Rule/Quark; what
-- it promises of two histories is in Response. Assumes nothing.
use Rattle.std.specs.Prelude.{ℕ, List}
use Rattle.rules.specs.Rule.Call.{Call}
use Rattle.rules.specs.Rule.History.{History}
use Rattle.rules.specs.Rule.Quark.{Bar, Sockets, Cookies, Display, State, Keys, Quark}
use Rattle.rules.proofs.Time.Bar.{history_bar}
use Rattle.rules.proofs.Time.Passed.{history_sockets, history_cookies, history_display}
use Rattle.rules.proofs.Time.State.{history_state, history_keys}

module _ {book : List ℕ} {cs : List Call} {t : List ℕ} (h : History book cs t) where
  -- The last bar that a seat's screen was sent shows the suffix of its selected tab, or nothing.
  pub bar_shows : Bar cs t
  bar_shows = history_bar h

  -- No socket goes to a host that is not a name under what was typed for its tab,
  pub sockets_inside : Sockets cs
  sockets_inside = history_sockets h

  -- and no cookie is kept or asked for that is not for such a name.
  pub cookies_inside : Cookies cs
  cookies_inside = history_cookies h

  -- Only the selected tab paints.
  pub selected_paints : Display cs
  selected_paints = history_display h

  -- State integrity: an event that is not a seat's changes nothing but what one tab waits for,
  pub state_kept : State cs
  state_kept = history_state h

  -- and a seat's event that is no control key changes nothing.
  pub keys_kept : Keys cs
  keys_kept = history_keys h

  pub quark : Quark cs t
  quark =
      record {
        bar = bar_shows;
        sockets = sockets_inside;
        cookies = cookies_inside;
        display = selected_paints;
        state = state_kept;
        keys = keys_kept;
      }

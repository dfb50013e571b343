-- The rules for what a tab sends, and for what a process or the network sends to a tab, document 01, "Rules of a step". The
-- tab is live and stands in slot k; the event's bytes are e. Assumes nothing.
use Rattle.std.specs.Prelude.{ℕ, Bool, not, ◌&&◌, cond, List, [], ◌∷◌, eqb}
use Rattle.fields.specs.declared.mark.Mark.TheVariants.{Cookie, Document}
use Rattle.rules.specs.Rule.Event.{part}
use Rattle.rules.specs.Rule.Action.{paint, error, document, cookie, set, get, fetch, open_socket}
use Rattle.rules.specs.Rule.Desk.{Desk, Reply, refuse, reply, Change, stay, set_mark, clear_mark}
use Rattle.rules.specs.Rule.Frame.{Frame}
use Rattle.rules.specs.Rule.Allow.{cookie_domain, socket_allowed, is_url}
use Rattle.rules.specs.declared.event.TabMessage.{TabMessage}
use Rattle.rules.specs.declared.event.TabMessage.TheVariants.{Display, Socket, Url, Store, Retrieve}

-- ---- from the tab

-- allowed: one action and its change; "Denied: one error action to the tab; nothing else changes."
unfoldable pub ask : Bool → ℕ → Frame → Change → Reply
ask allowed i a c = cond allowed (reply (a ∷ []) c) (reply (error i ∷ []) stay)

-- "Display: paint if the tab is selected, otherwise no action."
unfoldable pub display_rule : Desk → ℕ → List ℕ → Reply
display_rule d k x = cond (eqb d.chosen k) (reply (paint d.seat x ∷ []) stay) (reply [] stay)

unfoldable pub socket_rule : Desk → ℕ → ℕ → List ℕ → Reply
socket_rule d k port host =
    ask (socket_allowed port host (d.suffix k)) (d.id k) (open_socket (d.id k) port host) stay

-- ".. no document waiting; sets it"
unfoldable pub url_rule : Desk → ℕ → List ℕ → Reply
url_rule d k u = ask (is_url u && not (d.waits k Document)) (d.id k) (fetch (d.id k) u) (set_mark k Document)

unfoldable pub store_rule : Desk → ℕ → List ℕ → List ℕ → Reply
store_rule d k domain x = ask (cookie_domain domain (d.suffix k)) (d.id k) (set (d.process k) domain x) stay

-- "retrieve also needs no cookie waiting, and sets it"
unfoldable pub retrieve_rule : Desk → ℕ → List ℕ → Reply
retrieve_rule d k domain =
    ask (cookie_domain domain (d.suffix k) && not (d.waits k Cookie)) (d.id k) (get (d.process k) (d.id k) domain)
    (set_mark k Cookie)

-- ---- a tab's message, its bytes being in e; b is the book, as a seat's rule has it, and none of these reads it

unfoldable pub tab_rule : Desk → List ℕ → List ℕ → ℕ → TabMessage → Reply
tab_rule d b e k (Display p) = display_rule d k (part e p)
tab_rule d b e k (Socket port h) = socket_rule d k port (part e h)
tab_rule d b e k (Url u) = url_rule d k (part e u)
tab_rule d b e k (Store n c) = store_rule d k (part e n) (part e c)
tab_rule d b e k (Retrieve n) = retrieve_rule d k (part e n)

-- ---- to the tab

-- "Result: passed on if the tab is live, hangs on the sender and waits for a cookie; the mark is cleared."
unfoldable pub result_rule : Desk → ℕ → ℕ → List ℕ → Reply
result_rule d n k x =
    cond (eqb (d.process k) n && d.waits k Cookie) (reply (cookie (d.id k) x ∷ []) (clear_mark k Cookie)) (refuse 10)

-- "Document likewise with its mark."
unfoldable pub document_rule : Desk → ℕ → List ℕ → Reply
document_rule d k x = cond (d.waits k Document) (reply (document (d.id k) x ∷ []) (clear_mark k Document)) (refuse 10)

-- Each of a tab's messages has its function and its rule. Assumes nothing.
use Rattle.rules.proofs.Steps.Serve.{part_small, host_small, store_small, tab_display, tab_socket, tab_url, tab_store}
use Rattle.rules.proofs.Steps.Serve.{tab_retrieve}
use Rattle.senders.proofs.from_tab.Goals as goal

pub display-requires : goal.display-requires
display-requires c =
    (c.requires.0, part_small _ _ c.part_of.ensures (rw c.in-Display.is at c.requires.1))

pub socket-requires : goal.socket-requires
socket-requires c =
    let h = rw c.in-Socket.is at c.requires.1 in
    (c.requires.0, host_small _ _ _ c.part_of-in-Socket.ensures h, h.2)

pub url-requires : goal.url-requires
url-requires c =
    (c.requires.0, part_small _ _ c.part_of-in-Url.ensures (rw c.in-Url.is at c.requires.1))

pub store-requires : goal.store-requires
store-requires c =
    let h = store_small _ _ _ c.part_of-in-Store.ensures c.part_of-in-Store-2.ensures
    (rw c.in-Store.is at c.requires.1) in
    (c.requires.0, h.0, h.1)

pub returns-in-Display : goal.returns-in-Display
returns-in-Display c =
    tab_display _ _ _ _ c.in-Display.is c.part_of.ensures c.display.ensures

pub returns-in-Socket : goal.returns-in-Socket
returns-in-Socket c =
    tab_socket _ _ _ _ _ c.in-Socket.is c.part_of-in-Socket.ensures c.socket.ensures

pub returns-in-Url : goal.returns-in-Url
returns-in-Url c =
    tab_url _ _ _ _ c.in-Url.is c.part_of-in-Url.ensures c.url.ensures

pub returns-in-Store : goal.returns-in-Store
returns-in-Store c =
    tab_store _ _ _ _ _ c.in-Store.is c.part_of-in-Store.ensures c.part_of-in-Store-2.ensures
    c.store.ensures

pub returns-in-Retrieve : goal.returns-in-Retrieve
returns-in-Retrieve c =
    tab_retrieve _ _ _ _ c.in-Retrieve.is c.part_of-in-Retrieve.ensures c.retrieve.ensures

use Rattle.std.proofs.Common.{ap, length, subst, ℕ}
use Rattle.std.specs.Prelude.{Some}
use Rattle.serve_turns.specs.link_serving.Passage.{IsLinkAt, IsOfNet, Passage, ServesOver}
use Rattle.serve_command.proofs.AllServed.{all_served}
use Rattle.serve_command.specs.Serving.{serves_link}
use Rattle.serve_turns.specs.shared_book.Words.{view_of}
use Rattle.serve_turns.specs.link_threads.Accepted.{AreAccepted}
use Rattle.serve_turns.specs.link_threads.Covering.{HaveEnds}
use Rattle.serve_command.proofs.Counted.{counted, none_stopped}
use Rattle.serve_command.proofs.Rises.{rises}
use Rattle.serve_command.proofs.Still.{behind_of, still_opens}
use Rattle.serve_command.proofs.Wholes.{whole_of}
use Rattle.serve_command.proofs.command.serve_book.Goals as goal

pub returns : goal.returns
returns g c = λ server from opening begins. (let over : ℕ → Passage → Type 0 =
    IsOfNet g.N.L.Link.told g.N.L.Link.given g.N.L.Link.left g.N.L.Link.written g.N.L.Link.faults g.N.L.Link.ended g.N.L.Link.number
    g.N.Net.accepted g.N.Net.sent c.args.net c.serve_links-served.result.net in
    let opens = still_opens server _ _ opening c.serve_links-served.ensures.opening in
    let most = c.accepted-count.ensures in
    let all = c.serve_links-served.ensures.served in
    let served = all_served (ServesOver over serves_link)
    (IsLinkAt g.N.L.Link.told g.N.L.Link.number g.N.L.Link.left (g.N.Net.accepted c.args.net) (length (g.N.Net.sent c.args.net))
    (g.N.Net.sent c.serve_links-served.result.net)) all.0 c.serve_links-served.result.roll.ends.items
    (view_of c.serve_links-served.result.roll.seat) all.2 in
    let accepted = subst (λ (n : ℕ). AreAccepted n all.0 c.serve_links-served.result.halt (g.N.Net.accepted c.args.net)
    (g.N.Net.accepted c.serve_links-served.result.net)) most all.1 in
    let tells = behind_of _ _ _ _ _ _ _ _ _ _ _ _ _ c.as_slice.ensures.value c.left_of-left.ensures.stopped c.left_of-left.ensures.risen
    c.behind-ending.ensures in
    record {
      view = view_of c.serve_links-served.result.roll.seat;
      opens = opens;
      halt = c.serve_links-served.result.halt;
      ends = c.serve_links-served.result.roll.ends.items;
      last = c.closed-last.result;
      net_failed = c.serve_links-served.ensures.net;
      listens = c.serve_links-served.ensures.place;
      links_served = all.0;
      accepted = accepted;
      served = served;
      closes = c.closed-last.ensures;
      disk_is = ap Some c.left_of-left.ensures.disk;
      rose = rises _ _ _;
      counted = counted _ _ _ _ _ _ _ _ _ _ _ _ _ _ tells c.requires.room c.serve_links-served.ensures.count
          (λ is. subst (λ (n : ℕ). HaveEnds n c.serve_links-served.result.roll.ends.items) most (c.serve_links-served.ensures.ends is))
          accepted;
      goes_on = none_stopped _ _ _ _ _ _ _ _ _ _ tells;
      whole = whole_of g.D.Disk.told g.D.Disk.seen g.D.Disk.may_leave g.D.Disk.faults over all.0 server from
          (view_of c.serve_links-served.result.roll.seat) c.serve_links-served.result.roll.ends.items c.closed-last.result opens served
          c.closed-last.ensures begins;
      tells = tells;
    })

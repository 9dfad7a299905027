use Rattle.std.proofs.Common.{◌≡◌, [], ◌++◌, ap, ◌∙◌}
use Rattle.spec_wire.specs.messages.Header.{header_spelling}
use Rattle.spec_wire.specs.messages.TreeConnect.{tree_connect_response_fault, tree_connect_response_spelling}
use Rattle.spec_exchange.specs.Commands.{TreeConnect}
use Rattle.spec_commands.specs.CommandOf.{command_of}
use Rattle.spec_commands.specs.BodyOf.{body_of}
use Rattle.spec_commands.specs.ReplyBody.{reply_body, connected_value}
use Rattle.law_ties.specs.wire_facts.Lawful.{header_as}
use Rattle.law_ties.proofs.wire_facts.Signed.{spelled, with_signature, parts}
use Rattle.law_ties.proofs.wire_facts.Setups.{tree_body, tree_fits, none_is}
use Rattle.law_ties.proofs.wire_facts.trees_law.Goals as goal

pub returns : goal.returns
returns c = record {
  lawful = λ z fitting. record {
    tree = λ t h m fit is command. (
        let body = body_of (TreeConnect z.share) in
        let x = spelled h body m fit is in
        let header = header_spelling (with_signature h x.code) in
        ap (command_of t (header_as h m)) (parts h body m x)
        ∙ c.share_law.ensures t (header_as h m) header [] z.share (c.header_law.ensures.length (with_signature h x.code) x.fits)
        fitting.share fitting.plain_share command);
    tree_told = λ h token r kind capabilities access reply ok e fit is k a b. (
        let body = reply_body token (TreeConnect z.share) reply in
        let v = connected_value kind capabilities access in
        let x = spelled h body r fit is in
        let header = header_spelling (with_signature h x.code) in
        let long = c.header_law.ensures.length (with_signature h x.code) x.fits in
        let all = header ++ (tree_connect_response_spelling v ++ []) in
        let whole : r ≡ all =
        parts h body r x ∙ ap (λ y. header ++ (y ++ [])) (tree_body z.share token reply kind capabilities access ok e) in
        let law = c.tree_connect_response_law.ensures in
        none_is (tree_connect_response_fault r) (ap tree_connect_response_fault whole
        ∙ law.whole all v (law.again header [] v long (tree_fits kind capabilities access k a b))));
  };
}

use Rattle.std.proofs.Common.{[], ◌∷◌, length, ap, ◌∙◌, Some}
use Rattle.law_ties.proofs.wire_facts.Signed.{spelled, with_signature}
use Rattle.law_ties.proofs.wire_facts.Heads.{stands, size, next, has_it, heard_is, alone_is, response_is, plain_is}
use Rattle.law_ties.proofs.wire_facts.headers_law.Goals as goal

pub returns : goal.returns
returns c = record {
  lawful = record {
    alone = λ h body m fit last is. (let x = spelled h body m fit is in let s = stands h body m x c.header_law.ensures.again in
        alone_is m (length body) (size h body m x c.header_law.ensures.length) (has_it m (with_signature h x.code) s)
        (next h m x.code s ∙ last) ∙ ap (λ y. Some (y ∷ [])) (heard_is m h x.code s));
    heard = λ h body m fit is. (let x = spelled h body m fit is in let s = stands h body m x c.header_law.ensures.again in
        response_is m (has_it m (with_signature h x.code) s) ∙ ap Some (heard_is m h x.code s));
    plain = plain_is;
    size = λ h body m fit is. size h body m (spelled h body m fit is) c.header_law.ensures.length;
  };
}

use Rattle.std.proofs.Common.{◌≡◌, Bool, true, sym, ap, subst, ◌∙◌}
use Rattle.spec_exchange.specs.State as model
use Rattle.spec_exchange.specs.Files.{exists}
use Rattle.spec_exchange.specs.Opens.{drop_open, is_kept_back, pending_behind}
use Rattle.law_records.specs.leaving_opens.Since.{goes_alone, is_kept_alone}
use Rattle.law_records.proofs.leaving_opens.Left.{alone, kept_alone}
use Rattle.server_effects.specs.Fates.{fate_of}
use Rattle.server_effects.proofs.leaving_opens.expired.fate_with.Goals as goal

pub returns-in-Some : goal.returns-in-Some
returns-in-Some c = λ s f o t st.
    let e = (c.in-Some.ensures s o).1.opened_is in
    c.fate_alone.ensures s o t (subst (λ (w : model.Open). exists s w.file ≡ true) e (f.open_files c.args.id st))
    ∙ (ap (λ (w : model.Open). fate_of (is_kept_alone s w) (goes_alone s w)) (sym e)
    ∙ (ap (λ (b : Bool). fate_of b (goes_alone s (s.opened c.args.id))) (sym (kept_alone s c.args.id f st))
    ∙ ap (λ (b : Bool). fate_of (is_kept_back (drop_open (pending_behind s c.args.id) c.args.id) (s.opened c.args.id).file) b)
    (sym (alone s c.args.id f st))))

pub returns-in-None : goal.returns-in-None
returns-in-None c = λ s f o t st. absurd (let e = sym (c.in-None.ensures s o) ∙ st in cc)

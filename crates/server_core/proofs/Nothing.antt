-- The state of no records fits together.
use Rattle.std.proofs.Common.{◌≡◌, false, refl, arith}
use Rattle.spec_exchange.specs.Commands.{deletes_on_close}
use Rattle.spec_exchange.specs.Files.{exists, exists_in}
use Rattle.spec_exchange.specs.Fold.{nothing_yet}
use Rattle.law_server.specs.tables.Fits.{Fits}

no_options : deletes_on_close 0 ≡ false
unfolding deletes_on_close Rattle.spec_exchange.specs.Commands.has_bit
no_options = refl

pub nothing_fits : Fits nothing_yet
unfolding Rattle.law_server.specs.tables.Fits.is_ascending exists exists_in
nothing_fits =
    record {
      attached = λ p x h. absurd (cc);
      plain_attached = λ p st pl. absurd (cc);
      guid_open = λ c g p h. absurd (cc);
      open_guid = λ p g st h. absurd (cc);
      persistent_guid = λ p st h. absurd (cc);
      deadlines = λ p d h. absurd (cc);
      listed = λ p. refl;
      ascending = refl;
      open_ids = λ p st. absurd (cc);
      given = omega arith;
      begun = omega arith;
      session_ids = λ x h. absurd (cc);
      making_ids = λ k x h. absurd (cc);
      making_once = λ j k x h e. absurd (cc);
      on_present = λ k x h. absurd (cc);
      on_made = λ k x h. absurd (cc);
      no_trees = λ x h. refl;
      no_closed = λ x g h. refl;
      no_refused = λ x g h. refl;
      no_guids = λ x h. refl;
      next_tree = λ x h. absurd (cc);
      tree_ids = λ x n t h. absurd (cc);
      range_owners = λ y n r h. absurd (cc);
      not_root = λ p h. absurd (let e = no_options in cc);
      root_stays = refl;
      open_files = λ p st. absurd (cc);
      next_file = omega arith;
      file_numbers = λ y h. absurd (cc);
      room = omega arith;
      limit = refl;
    }

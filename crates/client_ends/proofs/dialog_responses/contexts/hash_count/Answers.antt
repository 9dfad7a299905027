use Rattle.client_ends.proofs.dialog_responses.Hashes.{they_fit, lists_do}
use Rattle.client_ends.proofs.dialog_responses.contexts.hash_count.Goals as goal

pub hashes_in-requires : goal.hashes_in-requires
hashes_in-requires c = record {
  fits = they_fit c.args.bytes.now c.args.count c.requires;
  lists = lists_do c.args.bytes.now c.args.count c.requires;
}

use Rattle.std.proofs.Common.{ℕ, ◌^◌, ◌≤◌, ◌<◌, Bool, true, false, List, ◌++◌, length, Option, Some, None, refl, ap, ◌∙◌, arith}
use Rattle.std.specs.Prelude.{◌==◌, if◌then◌else◌, option_map}
use Rattle.spec_wire.specs.messages.Aligned as aligned
use Rattle.spec_wire.specs.messages.CreateResponse.{CreateResponseValue, SpellsCreateResponse, create_response_fault}
use Rattle.spec_wire.specs.messages.CreateResponse.{create_response_in, create_response_spelling}
use Rattle.spec_wire.specs.messages.CreateContexts.{IsWritableReplyContexts, IsWritableDh2qReply, IsWritableMaximalAccess}
use Rattle.spec_wire.specs.messages.CreateContexts.{IsWritableDiskId, reply_contexts_spelling, flags_of}
use Rattle.spec_exchange.specs.State.{Body, Created, CreateReply}
use Rattle.spec_commands.specs.ReplyBody.{created_value, contexts_told, timeout_told, access_told, disk_id_told}
use Rattle.spec_commands.specs.ReplyOf.{body_in, created_of, of_length}
use Rattle.law_commands.specs.commands.Fitting.{IsCreated, IsFittingTimeout}
use Rattle.law_commands.proofs.commands.Fields.{length-file_id}
use Rattle.law_commands.proofs.commands.Halves.{told}
use Rattle.law_commands.proofs.commands.ReadBack.{found}
use Rattle.law_commands.proofs.commands.HeardBack.{heard_as}
use Rattle.law_commands.proofs.commands.Infos.{allocation_small, attributes_small}
use Rattle.law_commands.proofs.commands.Chained.{replies_few}
use Rattle.law_commands.proofs.commands.reply.created_reply.Goals as goal

abbrev created_in : CreateResponseValue → Option Body
created_in v = Some (Created (created_of v))

-- the open's id as it is read
abbrev heard_with : CreateReply → ℕ → Option Body
heard_with r id = Some (Created (record {
  id = id;
  action = r.action;
  info = of_length r.info.size;
  timeout = None;
  maximal = false;
  disk_id = false;
}))

flags_small : (b : Bool) → flags_of b < 256 ^ 4
unfolding flags_of
flags_small true = omega arith
flags_small false = omega arith

timeout_fits : (o : Option ℕ) → IsFittingTimeout o → IsWritableDh2qReply (option_map timeout_told o)
timeout_fits None is = tt
timeout_fits (Some timeout) is = (is, (flags_small true, tt))

access_fits : (b : Bool) → IsWritableMaximalAccess (access_told b)
access_fits true = (omega arith, (omega arith, tt))
access_fits false = tt

disk_id_fits : (b : Bool) (file : ℕ) → file < 256 ^ 8 → IsWritableDiskId (disk_id_told b file)
disk_id_fits true file is = (is, (omega arith, tt))
disk_id_fits false file is = tt

fits : (r : CreateReply) → IsCreated r → IsWritableReplyContexts (contexts_told r)
fits r is = record {
  dh2q = timeout_fits r.timeout is.timeout;
  mxac = access_fits r.maximal;
  qfid = disk_id_fits
      r.disk_id r.info.file is.info.file;
}

told_at_most : (empty : Bool) → (if empty then 0 else 152) ≤ 152
told_at_most true = omega arith
told_at_most false = omega arith

told_small : (n : ℕ) → aligned.told n 152 ≤ 152
told_small n = told_at_most (n == 0)

pub returns : goal.returns
unfolding body_in
returns c = λ header rest token request r len is.
    let law = c.create_response_law.ensures in
    let v : CreateResponseValue = created_value r in
    let m : List ℕ = header ++ (create_response_spelling v ++ rest) in
    let few : length (reply_contexts_spelling (contexts_told r)) ≤ 300 = replies_few (contexts_told r) (fits r is) in
    let times = is.info.times in
    let place = told_small (length (reply_contexts_spelling (contexts_told r))) in
    let size : r.info.size < 256 ^ 8 = omega (arith, is.info.size) in
    let row = found SpellsCreateResponse create_response_fault create_response_in law.one law.whole law.given m v
    (law.again header rest v len (
      omega arith,
      (
        omega arith,
        (
          omega arith,
          (
            is.action,
            (
              times.created,
              (
                times.accessed,
                (
                  times.written,
                  (
                    times.changed,
                    (
                      allocation_small r.info.size is.info.size,
                      (
                        size,
                        (
                          attributes_small r.info
                              times.attributes,
                          (
                            length-file_id r.id,
                            (
                              omega (arith, place),
                              (
                                omega (arith, few),
                                (
                                  refl,
                                  tt,
                                ),
                              ),
                            ),
                          ),
                        ),
                      ),
                    ),
                  ),
                ),
              ),
            ),
          ),
        ),
      ),
    )) in
    heard_as create_response_fault create_response_in created_in m v row ∙ ap (heard_with r) (told r.id is.id)

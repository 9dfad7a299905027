-- A logon by NTLM's messages alone, computed.
use Rattle.std.proofs.Common.{◌≡◌, ◌+◌, [], refl, true, false}
use Rattle.std.specs.Prelude.{Some, None}
use Rattle.spec_wire.specs.messages.Places.{number_of, le, bytes_at}
use Rattle.spec_crypto.specs.tokens.Acceptor.{challenge}
use Rattle.spec_crypto.specs.tokens.Der.{element}
use Rattle.spec_crypto.specs.tokens.Messages.{start_fault, type2_spelling}
use Rattle.spec_crypto.specs.tokens.Spnego.{init_in}
use Rattle.spec_crypto.specs.tokens.Tokens.{Begins, Bad, is_bare, is_unlisted, first_in, begun_by, second_of, second_in}
use Rattle.spec_crypto.specs.tokens.Tokens.{challenge_token, shown, final_token}
use Rattle.spec_world.specs.Logon.{challenge_of, pending_by}
use Rattle.examples_world.specs.runs.Meeting.{first_moment, alone_logon, shown_alone}
use Rattle.examples_world.specs.runs.Worked as worked

pub begins : begun_by true worked.type_1 ≡ Some (record { list = []; first = worked.type_1 })
unfolding begun_by first_in is_bare start_fault number_of bytes_at
begins = refl

pub wrapped : begun_by false worked.type_1 ≡ None
unfolding begun_by first_in init_in element
wrapped = refl

pub challenged : challenge_of (pending_by true worked.type_1 worked.server_challenge (first_moment + 3)) ≡ worked.type_2
unfolding pending_by begun_by first_in is_bare start_fault number_of bytes_at second_of challenge type2_spelling le
    challenge_token is_unlisted
challenged = refl

pub again : shown_alone worked.type_1 ≡ Begins
unfolding shown begun_by first_in is_bare start_fault number_of bytes_at
again = refl

pub other : shown_alone worked.second_token ≡ Bad
unfolding shown pending_by begun_by first_in is_bare init_in element start_fault number_of bytes_at second_in is_unlisted
other = refl

pub last : final_token [] alone_logon false ≡ []
unfolding final_token is_unlisted
last = refl

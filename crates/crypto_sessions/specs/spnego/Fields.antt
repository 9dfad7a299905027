-- The parts of a token in code, as the definitions see them.
use Rattle.std.specs.Prelude.{List, ℕ, Option, Some, None}
use Rattle.std.specs.Borrow.{Bor}
use Rattle.spec_crypto.specs.tokens.Spnego.{Octets, Names, MechTypes, Hints, State, Mech, Named, RespValue}
use Rattle.crypto_sessions.specs.spnego.Pieces.{der_piece}
use Rattle.crypto_sessions.specs.declared.spnego.fields.OctetString.{OctetString}
use Rattle.crypto_sessions.specs.declared.spnego.fields.ListNames.{ListNames}
use Rattle.crypto_sessions.specs.declared.spnego.fields.MechList.{MechList}
use Rattle.crypto_sessions.specs.declared.spnego.fields.NegHints.{NegHints}
use Rattle.crypto_sessions.specs.declared.spnego.fields.NegState.{NegState}
use Rattle.crypto_sessions.specs.declared.spnego.fields.SupportedMech.{SupportedMech}
use Rattle.crypto_sessions.specs.declared.spnego.reading.InitFields.{InitFields}
use Rattle.crypto_sessions.specs.declared.spnego.reading.RespFields.{RespFields}

abbrev pub der_lent : Option (Bor (List ℕ)) → Option (List ℕ)
der_lent None = None
der_lent (Some b) = Some b.now

abbrev pub octets_view : OctetString → Octets
octets_view x = record { bytes = der_lent x.bytes; rest = der_piece x.rest }

abbrev pub names_view : ListNames → Names
names_view x = record { first = x.ntlm_first; named = x.names_ntlm }

abbrev pub mech_types_view : MechList → MechTypes
mech_types_view x = record { list = x.list.now; names = names_view x.names; rest = der_piece x.rest }

abbrev pub hints_view : NegHints → Hints
hints_view x = record { there = x.present; rest = der_piece x.rest }

abbrev pub state_view : NegState → State
state_view x = record { value = x.value; rest = der_piece x.rest }

abbrev pub mech_view : SupportedMech → Mech
mech_view x = record { ntlm = x.ntlm; rest = der_piece x.rest }

abbrev pub init_fields_view : InitFields → Named
init_fields_view x = record {
  named = x.names_ntlm;
  value = record {
    mech_list = x.mech_list.now;
    ntlm_first =
        x.ntlm_first;
    token = der_lent x.token;
    mic = der_lent x.mic;
  };
}

abbrev pub resp_fields_view : RespFields → RespValue
resp_fields_view x = record { state = x.state; ntlm = x.ntlm; token = der_lent x.token; mic = der_lent x.mic }

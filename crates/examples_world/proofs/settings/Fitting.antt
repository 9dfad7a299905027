-- The settings of a worked logon fit.
use Rattle.std.proofs.Common.{◌≡◌, ◌++◌, [], length, IsUtf8, refl, arith}
use Rattle.std.specs.Str.{chars}
use Rattle.std.proofs.lemmas.Str.{IsUtf8-nil}
use Rattle.spec_wire.specs.messages.Places.{le}
use Rattle.spec_wire.specs.messages.Utf16.{utf16}
use Rattle.spec_crypto.specs.tokens.Formulas.{upper, utf16_characters, utf16 as logon_utf16}
use Rattle.spec_crypto.specs.tokens.Acceptor.{user_named, is_named}
use Rattle.spec_commands.specs.BodyOf.{host}
use Rattle.law_commands.specs.commands.Fitting.{IsFittingName}
use Rattle.law_commands.proofs.commands.Limits.{ascii_then}
use Rattle.law_ties.specs.wire_facts.Fitting.{AllAscii, IsUserName, IsPassword, HasPassword, IsFittingClient, IsFitting}
use Rattle.examples_world.specs.settings.Logon.{user_name, password, share_name, logon_client, logon_server, logon_settings}

user_ascii : AllAscii user_name
user_ascii = (omega arith, (omega arith, (omega arith, (omega arith, tt))))

user_fits : IsUserName user_name
user_fits = record { ascii = user_ascii; short = omega arith }

password_text : IsUtf8 password
password_text =
    ascii_then 80 _ (omega arith)
    (ascii_then 97 _ (omega arith)
    (ascii_then 115 _ (omega arith)
    (ascii_then 115 _ (omega arith)
    (ascii_then 119 _ (omega arith)
    (ascii_then 111 _ (omega arith) (ascii_then 114 _ (omega arith) (ascii_then 100 [] (omega arith) IsUtf8-nil)))))))

password_fits : IsPassword password
password_fits = record { utf8 = password_text; short = omega arith }

-- `\\smb311\data`
share_text : IsUtf8 (host ++ share_name)
share_text =
    ascii_then 92 _ (omega arith)
    (ascii_then 92 _ (omega arith)
    (ascii_then 115 _ (omega arith)
    (ascii_then 109 _ (omega arith)
    (ascii_then 98 _ (omega arith)
    (ascii_then 51 _ (omega arith)
    (ascii_then 49 _ (omega arith)
    (ascii_then 49 _ (omega arith)
    (ascii_then 92 _ (omega arith)
    (ascii_then 100 _ (omega arith)
    (ascii_then 97 _ (omega arith) (ascii_then 116 _ (omega arith) (ascii_then 97 [] (omega arith) IsUtf8-nil))))))))))))

share_length : length (utf16 (host ++ share_name)) ≡ 26
unfolding utf16 chars le
share_length = refl

share_fits : IsFittingName (host ++ share_name)
share_fits = record { utf8 = share_text; short = (let e = share_length in omega (arith, e)) }

client_fits : IsFittingClient logon_client
client_fits = record {
  user = user_fits;
  password = password_fits;
  guid = refl;
  ciphers = (refl, (refl, (refl, (refl, tt))));
  signings = (refl, (refl, tt));
  few_ciphers = omega arith;
  few_signings = omega arith;
}

-- the server finds the user by its name
known : HasPassword (user_named (logon_utf16 user_name) logon_server.users.list) password
unfolding user_named is_named upper utf16_characters chars le
known = refl

pub settings_fit : IsFitting logon_settings
settings_fit = record {
  client = client_fits;
  users = (user_fits, password_fits, tt);
  server_guid = refl;
  password = known;
  share = share_fits;
  plain_share = (refl, (refl, (refl, (refl, tt))));
}

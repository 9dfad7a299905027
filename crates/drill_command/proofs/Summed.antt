-- The run of a script that is made, and its sum.
use Rattle.std.proofs.Common.{◌≡◌, ℕ, zero, suc, ◌+◌, ◌≤◌, ◌<◌, Bool, false, List, [], ◌∷◌, ◌++◌, length, drop, map}
use Rattle.std.proofs.Common.{refl, sym, ap, subst, ◌∙◌, arith, Result, Ok, Err, MatchResult}
use Rattle.std.proofs.lemmas.List.{drop_all}
use Rattle.client_steps.specs.whole_client.Shown.{ShowsClient}
use Rattle.client_steps.specs.declared.whole_client.client.Client.{Client as Core}
use Rattle.client_ends.specs.dialog_calls.Ending.{CanConnect}
use Rattle.client_values.specs.outcomes.Meaning.{outcome_of}
use Rattle.client_values.specs.declared.outcomes.outcome.Outcome.{Outcome as Settled}
use Rattle.drill_command.specs.Made.{IsSum, Sums, Totals}
use Rattle.drill_command.specs.Playing.{DrillEnds, IsDrillMemory}
use Rattle.drill_command.specs.Summing.{stored_bytes, count_of, counts_line, counts_of, files_line, is_kind, one_if, summary_text}
use Rattle.drill_command.specs.TopCall.{plain, run_left}
use Rattle.drill_command.specs.declared.summing.Kind.{Kind}
use Rattle.drill_command.specs.declared.summing.Kind.TheVariants as kinds
use Rattle.drill_command.proofs.Played.{ends_by}
use Rattle.law_scripts.specs.script_setup.Scripts.{drill_settings, settings_in}
use Rattle.law_scripts.specs.drill.Drills.{MadeScriptsHold}
use Rattle.drill_command.proofs.drill_text.Ended.{gave, settled_listed}
use Rattle.drill_command.specs.drill_text.Text.{outcomes_from}
use Rattle.spec_exchange.specs.Client.{finish}
use Rattle.spec_exchange.specs.Network as network
use Rattle.spec_exchange.specs.Operations.{Ended, NoOpen, NoSlot, Outcome, Unknown, Unsettled, WasOk, WasRefused}
use Rattle.store_files.specs.file_tree.Stored.{AreFiles}
use Rattle.store_files.specs.declared.file_tree.files.StoredFile.{StoredFile}
use Rattle.law_scripts.specs.generated.ReadsBack.{made_script, numbered}
use Rattle.law_scripts.specs.settings_fit.Fits.{DefaultsFit}
use Rattle.script_words.specs.generator.Lines.{line_said}
use Rattle.script_words.specs.generator.Making.{made_lines}
use Rattle.script_words.specs.declared.generator.lines.MadeLine.{MadeLine}
use Rattle.script_words.specs.text_lines.Settings.{settings_of}
use Rattle.script_words.specs.declared.text_lines.line.Line.{Line}
use Rattle.script_words.specs.declared.text_lines.line.Refusal.{Refusal}
use Rattle.script_words.specs.declared.text_lines.settings.Settings.{Settings}
use Rattle.law_scripts.specs.script_runs.Runs.{SchedulesAreCourses, did_all}
use Rattle.script_words.specs.Outcome.{Fails}
use Rattle.script_words.specs.declared.values.Fault.{Fault}
use Rattle.script_words.specs.declared.values.Statement.{Statement}
use Rattle.spec_world.specs.Courses.{Course, opening}
use Rattle.spec_world.specs.Events.{bytes_start}
use Rattle.spec_world.specs.Settings.{WorldSettings}
use Rattle.spec_world.specs.World as bytes
use Rattle.world_ends.specs.results.Ended.{ShowsEnded}
use Rattle.world_ends.specs.declared.results.ending.EndedWorld.{EndedWorld}
use Rattle.world_ends.specs.Shown.{ShowsWorld}
use Rattle.world_ends.specs.declared.world.World.{World}
use Rattle.drill_command.specs.script_run.Drives.{ScriptComes}

-- ---- lines, with their numbers

abbrev pub said_line : ℕ → Statement → Line
said_line number s = record { number = number; statement = s }

pub first_numbered : (before number : ℕ) (left more : List MadeLine) (l : MadeLine) (s : Statement) → left ≡ l ∷ more
    → number ≡ before + 1 → s ≡ line_said l → numbered before left ≡ said_line number s ∷ numbered number more
unfolding numbered
first_numbered before number left more l s split counted said =
    ap (λ (ls : List MadeLine). numbered before ls) split
    ∙ (ap (λ (n : ℕ). said_line n (line_said l) ∷ numbered n more) (sym counted)
    ∙ ap (λ (t : Statement). said_line number t ∷ numbered number more) (sym said))

pub none_numbered : (before : ℕ) (left : List MadeLine) → left ≡ [] → numbered before left ≡ []
unfolding numbered
none_numbered before left none = ap (λ (ls : List MadeLine). numbered before ls) none

pub less_left : (left more : List MadeLine) (l : MadeLine) → left ≡ l ∷ more → length more < length left
less_left left more l split =
    let e : length left ≡ suc (length more) = ap (λ (ls : List MadeLine). length ls) split in omega (arith, e)

-- ---- counts

pub count_more : (kind : Kind) (settled : List Settled) (place : ℕ) (one : Settled) (count more all : ℕ)
    → drop place settled ≡ one ∷ drop (place + 1) settled → more ≡ one_if (is_kind kind (outcome_of one))
    → count + count_of kind (map outcome_of (drop place settled)) ≡ all
    → count + more + count_of kind (map outcome_of (drop (place + 1) settled)) ≡ all
unfolding count_of
count_more kind settled place one count more all next is so_far =
    let e : count_of kind (map outcome_of (drop place settled))
    ≡ one_if (is_kind kind (outcome_of one)) + count_of kind (map outcome_of (drop (place + 1) settled)) =
    ap (λ (os : List Settled). count_of kind (map outcome_of os)) next in omega (arith, e, is, so_far)

pub count_all : (kind : Kind) (settled : List Settled) (place count all : ℕ) → length settled ≤ place
    → count + count_of kind (map outcome_of (drop place settled)) ≡ all → count ≡ all
unfolding count_of
count_all kind settled place count all past so_far =
    let e : count_of kind (map outcome_of (drop place settled)) ≡ 0 =
    ap (λ (os : List Settled). count_of kind (map outcome_of os)) (drop_all place settled past) in omega (arith, e, so_far)

pub bytes_more : (files : List StoredFile) (place : ℕ) (one : StoredFile) (bytes more all : ℕ)
    → drop place files ≡ one ∷ drop (place + 1) files → more ≡ bytes + length one.bytes → bytes + stored_bytes (drop place files) ≡ all
    → more + stored_bytes (drop (place + 1) files) ≡ all
unfolding stored_bytes
bytes_more files place one bytes more all next is so_far =
    let e : stored_bytes (drop place files) ≡ length one.bytes + stored_bytes (drop (place + 1) files) =
    ap (λ (fs : List StoredFile). stored_bytes fs) next in omega (arith, e, is, so_far)

pub bytes_all : (files : List StoredFile) (place bytes all : ℕ) → length files ≤ place → bytes + stored_bytes (drop place files) ≡ all
    → bytes ≡ all
unfolding stored_bytes
bytes_all files place bytes all past so_far =
    let e : stored_bytes (drop place files) ≡ 0 = ap (λ (fs : List StoredFile). stored_bytes fs) (drop_all place files past) in
    omega (arith, e, so_far)

-- ---- the sum of a client that ended

same_kind : (kind : Kind) (r : Outcome) → is_kind kind (gave r) ≡ is_kind kind r
same_kind kinds.Ok Unsettled = refl
same_kind kinds.Refused Unsettled = refl
same_kind kinds.NoSlot Unsettled = refl
same_kind kinds.NoOpen Unsettled = refl
same_kind kinds.Unknown Unsettled = refl
same_kind kind (WasOk reply) = refl
same_kind kind (WasRefused status) = refl
same_kind kind (NoSlot create) = refl
same_kind kind (NoOpen create) = refl
same_kind kind (Unknown why) = refl

same_count : (kind : Kind) (f : ℕ → Outcome) (g n : ℕ)
    → count_of kind (outcomes_from (λ i. gave (f i)) g n) ≡ count_of kind (outcomes_from f g n)
unfolding count_of outcomes_from
same_count kind f g zero = refl
same_count kind f g (suc n) =
    ap (λ (b : Bool). one_if b + count_of kind (outcomes_from (λ i. gave (f i)) (g + 1) n)) (same_kind kind (f g))
    ∙ ap (λ (m : ℕ). one_if (is_kind kind (f g)) + m) (same_count kind f (g + 1) n)

five_same : (a b c d e v w x y z : ℕ) → a ≡ v → b ≡ w → c ≡ x → d ≡ y → e ≡ z → counts_line a b c d e ≡ counts_line v w x y z
five_same a b c d e v w x y z i j k l m = rw (i, j, k, l, m) refl

same_counts : (f : ℕ → Outcome) (g n : ℕ) → counts_of (outcomes_from (λ i. gave (f i)) g n) ≡ counts_of (outcomes_from f g n)
same_counts f g n =
    five_same _ _ _ _ _ _ _ _ _ _ (same_count kinds.Ok f g n) (same_count kinds.Refused f g n) (same_count kinds.NoSlot f g n)
    (same_count kinds.NoOpen f g n) (same_count kinds.Unknown f g n)

pub is_sum : (w : network.World) (x : Core) (settled : List Settled) (files : List StoredFile) (text : List ℕ)
    → ShowsClient x (finish w.client Ended) → settled ≡ x.table.settled.items → AreFiles files w.server
    → text ≡ summary_text (map outcome_of settled) files → IsSum w text
is_sum w x settled files text h same are shown =
    let os = outcomes_from w.client.outcome 1 w.client.taken in
    let counts : counts_of (map outcome_of settled) ≡ counts_of os =
    ap (λ (l : List Settled). counts_of (map outcome_of l)) same
    ∙ (ap (λ (l : List Outcome). counts_of l)
    (settled_listed x.table.rows.items x.table.ops.items x.table.settled.items w.client h.table.values)
    ∙ same_counts w.client.outcome 1 w.client.taken) in
    record {
      files = files;
      are_files = are;
      is = shown ∙ ap (λ (l : List ℕ). l ++ files_line (length files) (stored_bytes files)) counts;
    }

pub summed_ok : {A : Type 0} (view : A → List ℕ) (z : WorldSettings) (due : Result Course Refusal) (ended : EndedWorld)
    (r : Result A (Fault Refusal))
    → MatchResult r (λ text. (z : WorldSettings) (w : bytes.World) → ShowsEnded z ended w → IsSum w.values (view text))
    (λ fault. IsDrillMemory fault)
    → (d : Course) × (due ≡ Ok d) × ShowsEnded z ended d.world → Totals view due r
summed_ok view z due ended (Ok text) t h = (h.0, h.1, t z h.0.world h.2)
summed_ok view z due ended (Err fault) t h = subst (λ (f : Fault Refusal). Fails f due) (sym t) tt

-- ---- the run

pub ran_left : (ls : List MadeLine) (s : Settings) (seed : List ℕ) (x y : World) (ended : EndedWorld)
    (refused : Result Unit (Fault Refusal))
    → s ≡ plain → (CanConnect s.share → ShowsWorld (drill_settings s seed) x (bytes_start (drill_settings s seed)))
    → ((z : WorldSettings) (c : Course) → ShowsWorld z x c.world → ScriptComes z (did_all z 0 (numbered 0 ls) c) y refused)
    → ((z : WorldSettings) (w : bytes.World) → ShowsWorld z y w → ShowsEnded z ended w) → CanConnect plain.share
    → DrillEnds (drill_settings plain seed) (run_left ls seed) ended refused
ran_left ls s seed x y ended refused same begun runs ends connects =
    let z = drill_settings plain seed in
    let shown : ShowsWorld z x (bytes_start z) =
    subst (λ (t : Settings). CanConnect t.share → ShowsWorld (drill_settings t seed) x (bytes_start (drill_settings t seed))) same begun
    connects in
    ends_by z (run_left ls seed) y ended refused (runs z (opening z) shown) ends

plain_connects : (seed : List ℕ) → DefaultsFit → CanConnect plain.share
unfolding drill_settings
plain_connects seed fit = (fit false seed).share.short

pub summed_by : {A : Type 0} (view : A → List ℕ) (key operations : ℕ) (seed : List ℕ) (ls : List MadeLine) (r : Result A (Fault Refusal))
    → operations ≤ 1048576 → MadeScriptsHold → DefaultsFit → SchedulesAreCourses → ls ≡ made_lines key operations
    → (CanConnect plain.share → Totals view (run_left ls seed) r) → Sums view key operations seed r
unfolding settings_of
summed_by view key operations seed ls (Ok out) few holds fit courses same totals =
    let t = totals (plain_connects seed fit) in
    let led = ap (λ (l : List MadeLine). run_left l seed) (sym same) ∙ t.1 in
    record {
      course = t.0;
      led = led;
      own = courses (settings_in (made_script key operations) seed) (made_script key operations).lines t.0 led;
      holds = holds key operations few seed;
      shown = t.2;
    }
summed_by view key operations seed ls (Err fault) few holds fit courses same totals =
    subst (λ (l : List MadeLine). Fails fault (run_left l seed)) same (totals (plain_connects seed fit))

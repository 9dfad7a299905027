-- How the top call ends, from what was read and how that was answered.
use Rattle.std.proofs.Common.{◌≡◌, ℕ, true, false, List, refl, subst, inl, inr, Option, Err}
use Rattle.std.specs.Io.KnownBytes.{Appends}
use Rattle.law_scripts.specs.generated.ReadsBack.{made_script, script_text}
use Rattle.script_words.specs.outcome_lines.Text.{refusal_line}
use Rattle.script_words.specs.generator.Making.{made_lines}
use Rattle.script_words.specs.declared.generator.lines.MadeLine.{MadeLine}
use Rattle.script_words.specs.declared.text_lines.line.Refusal.{Refusal}
use Rattle.script_words.specs.declared.values.Command.TheVariants.{Drill as ForDrill}
use Rattle.base_outside.specs.streams.Faults.{Rose}
use Rattle.base_outside.specs.whole_texts.Outside.{HasRead}
use Rattle.drill_command.specs.declared.ending.Ending.{Ending}
use Rattle.drill_command.specs.declared.ending.Ending.TheVariants.{Done, Usage, Script, SourceFailed, SinkFailed, Memory}
use Rattle.drill_command.specs.Made.{Summed}
use Rattle.drill_command.specs.Playing.{Ran, played, run_of}
use Rattle.drill_command.specs.TopCall.{CommandAnswers, Drills, CommandEnds, CommandMakes, CommandRefuses, SumsUp, CommandWrites}
use Rattle.drill_command.specs.Writing.{Fronts}
use Rattle.drill_command.specs.declared.words.Asked.{Asked}
use Rattle.script_words.proofs.ByteLimit.{keeps_limit}
use Rattle.drill_command.proofs.Written.{front_of, whole_front}

-- ---- a script that was read

pub wrote_text : (script seed text : List ℕ) (written written' : Option (List ℕ)) (faults faults' : ℕ) (ending : Ending)
    → Ran script seed text
    → CommandWrites text written written' faults faults' ending → CommandAnswers script seed written written' faults faults' ending
wrote_text script seed text written written' faults faults' Done ran (calm, wrote) =
    (calm, record { printed = text; ran = ran; wrote = wrote })
wrote_text script seed text written written' faults faults' Usage ran done = absurd done
wrote_text script seed text written written' faults faults' Script ran done = absurd done
wrote_text script seed text written written' faults faults' SourceFailed ran done = absurd done
wrote_text script seed text written written' faults faults' SinkFailed ran (rose, front) =
    (rose, record { printed = text; due = inl ran; wrote = front })
wrote_text script seed text written written' faults faults' Memory ran done = absurd done

pub refuses : (script seed : List ℕ) (refusal : Refusal) (written written' : Option (List ℕ)) (faults faults' : ℕ) (ending : Ending)
    → played script seed ≡ Err refusal → CommandRefuses refusal written written' faults faults' ending
    → CommandAnswers script seed written written' faults faults' ending
refuses script seed refusal written written' faults faults' Done due done = absurd done
refuses script seed refusal written written' faults faults' Usage due done = absurd done
refuses script seed refusal written written' faults faults' Script due (calm, wrote) =
    (calm, record { refusal = refusal; refused = due; wrote = wrote })
refuses script seed refusal written written' faults faults' SourceFailed due done = absurd done
refuses script seed refusal written written' faults faults' SinkFailed due (rose, front) = (
  rose,
  record { printed = refusal_line refusal; due = inr (record { refusal = refusal; refused = due; told = refl }); wrote = front },
)
refuses script seed refusal written written' faults faults' Memory due kept = kept

pub drills : (seed : List ℕ) (left left' written written' : Option (List ℕ)) (source source' sink sink' : ℕ) (script : List ℕ)
    (ending : Ending) → HasRead left left' script → source' ≡ source → CommandAnswers script seed written written' sink sink' ending
    → Drills seed left left' written written' source source' sink sink' ending
drills seed left left' written written' source source' sink sink' script Done read calm (kept, done) = (
  calm,
  record {
    script = script;
    read = read.read;
    ended = read.ended (keeps_limit ForDrill script done.ran.read done.ran.said);
    calm = kept;
    done = done;
  },
)
drills seed left left' written written' source source' sink sink' script Usage read calm done = absurd done
drills seed left left' written written' source source' sink sink' script Script read calm done =
    (calm, record { script = script; read = read; answered = done })
drills seed left left' written written' source source' sink sink' script SourceFailed read calm done = absurd done
drills seed left left' written written' source source' sink sink' script SinkFailed read calm done =
    (calm, record { script = script; read = read; answered = done })
drills seed left left' written written' source source' sink sink' script Memory read calm done = (calm, done)

-- ---- by what is asked

pub ends_as : (o p : Option Asked) (s t : List ℕ) (left left' written written' : Option (List ℕ)) (source source' sink sink' : ℕ)
    (ending : Ending) → o ≡ p → s ≡ t → CommandEnds o s left left' written written' source source' sink sink' ending
    → CommandEnds p t left left' written written' source source' sink sink' ending
ends_as o p s t left left' written written' source source' sink sink' ending same seed h =
    subst (λ (q : Option Asked). CommandEnds q t left left' written written' source source' sink sink' ending) same
    (subst (λ (r : List ℕ). CommandEnds o r left left' written written' source source' sink sink' ending) seed h)

pub never_reads : true ≡ false → ⊥
never_reads e = absurd (cc)

-- ---- a script that is made

pub sums_text : (key operations : ℕ) (seed text : List ℕ) (written written' : Option (List ℕ)) (faults faults' : ℕ) (ending : Ending)
    → Summed key operations seed text → CommandWrites text written written' faults faults' ending
    → SumsUp key operations seed written written' faults faults' ending
sums_text key operations seed text written written' faults faults' Done summed (calm, wrote) =
    (calm, record { printed = text; summed = summed; wrote = wrote })
sums_text key operations seed text written written' faults faults' Usage summed h = absurd h
sums_text key operations seed text written written' faults faults' Script summed h = absurd h
sums_text key operations seed text written written' faults faults' SourceFailed summed h = absurd h
sums_text key operations seed text written written' faults faults' SinkFailed summed (rose, front) =
    (rose, record { printed = text; due = inl summed; wrote = front })
sums_text key operations seed text written written' faults faults' Memory summed h = absurd h

pub sums_line : (key operations : ℕ) (seed : List ℕ) (refusal : Refusal) (written written' : Option (List ℕ)) (faults faults' : ℕ)
    (ending : Ending) → run_of (made_script key operations) seed ≡ Err refusal → CommandRefuses refusal written written'
    faults faults' ending
    → SumsUp key operations seed written written' faults faults' ending
sums_line key operations seed refusal written written' faults faults' Done due h = absurd h
sums_line key operations seed refusal written written' faults faults' Usage due h = absurd h
sums_line key operations seed refusal written written' faults faults' Script due (calm, wrote) =
    (calm, record { refusal = refusal; refused = due; wrote = wrote })
sums_line key operations seed refusal written written' faults faults' SourceFailed due h = absurd h
sums_line key operations seed refusal written written' faults faults' SinkFailed due (rose, front) = (
  rose,
  record { printed = refusal_line refusal; due = inr (record { refusal = refusal; refused = due; told = refl }); wrote = front },
)
sums_line key operations seed refusal written written' faults faults' Memory due kept = kept

-- behind the script
pub makes : (key operations : ℕ) (seed : List ℕ) (ls : List MadeLine) (written between written' : Option (List ℕ)) (faults mid faults' : ℕ)
    (ending : Ending) → ls ≡ made_lines key operations → Appends written between (script_text ls) → mid ≡ faults
    → SumsUp key operations seed between written' mid faults' ending → CommandMakes key operations seed written written'
    faults faults' ending
makes key operations seed ls written between written' faults mid faults' Done same wrote calm h = record {
  between = between;
  script = subst (λ (l : List MadeLine). Appends written between (script_text l)) same wrote;
  behind = subst (λ (n : ℕ). SumsUp key operations seed between written' n faults' Done) calm h;
}
makes key operations seed ls written between written' faults mid faults' Usage same wrote calm h = h
makes key operations seed ls written between written' faults mid faults' Script same wrote calm h = record {
  between = between;
  script = subst (λ (l : List MadeLine). Appends written between (script_text l)) same wrote;
  behind = subst (λ (n : ℕ). SumsUp key operations seed between written' n faults' Script) calm h;
}
makes key operations seed ls written between written' faults mid faults' SourceFailed same wrote calm h = h
makes key operations seed ls written between written' faults mid faults' SinkFailed same wrote calm (rose, cut) = (
  subst (λ (n : ℕ). Rose n faults') calm rose,
  inr (record {
    between = between;
    script = subst (λ (l : List MadeLine). Appends written between (script_text l)) same wrote;
    behind = (subst (λ (n : ℕ). Rose n faults') calm rose, cut);
  }),
)
makes key operations seed ls written between written' faults mid faults' Memory same wrote calm kept =
    whole_front written between written' (script_text (made_lines key operations))
    (subst (λ (l : List MadeLine). Appends written between (script_text l)) same wrote) kept

-- where it failed before the script's end
pub cut_script : (key operations : ℕ) (seed : List ℕ) (ls : List MadeLine) (written written' : Option (List ℕ)) (faults faults' : ℕ)
    → ls ≡ made_lines key operations → Rose faults faults' → Fronts written written' (script_text ls)
    → CommandMakes key operations seed written written' faults faults' SinkFailed
cut_script key operations seed ls written written' faults faults' same rose front =
    (rose, inl (front_of written written' ls (made_lines key operations) same front))

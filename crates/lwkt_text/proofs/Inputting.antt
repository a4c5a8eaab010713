-- What was read of sentences is input, or says why there is none.
use Rattle.std.proofs.Common.{◌≡◌, ℕ, ◌≤◌, nat_le, ◌&&◌, List, [], ◌∷◌, length, true, cond, None, Result, Ok, Err, IfOk, IfErr, sym, ap, ◌∙◌}
use Rattle.std.proofs.lemmas.Bool.{le-leb}
use Rattle.lwkt_script.specs.Format.{script_of}
use Rattle.lwkt_text.specs.declared.readers.Reading.{Reading}
use Rattle.lwkt_text.specs.declared.readers.Refusal.{Refusal}
use Rattle.lwkt_text.specs.declared.readers.Refusal.TheVariants.{Memory, Wrongs}
use Rattle.lwkt_text.specs.declared.words.Sentence.{Sentence}
use Rattle.lwkt_text.specs.declared.wrongs.Wrong.{Wrong}
use Rattle.lwkt_text.specs.Inputs.{IsUnread, input_of, json_input, is_no_json, long_wrong, one_declares, read_as, reading_within, text_input}
use Rattle.lwkt_text.specs.Reading.{reading_of, reading_of_sentences}
use Rattle.lwkt_text.specs.Refusing.{IsRefusalOf}
use Rattle.lwkt_text.specs.Scanning.{sentences_of}

pub ok_as : (read : Result Reading Refusal) (r : Result Reading (List Wrong)) → IfOk read (λ reading. r ≡ Ok reading) → IfOk (read_as read) (λ input. text_input r ≡ Ok input)
ok_as (Ok reading) r is = ap text_input is
ok_as (Err refusal) r is = tt

pub err_as : (read : Result Reading Refusal) (r : Result Reading (List Wrong)) → IfErr read (λ refusal. IsRefusalOf refusal r) → IfErr (read_as read) (λ unread. IsUnread unread (text_input r))
err_as (Ok reading) r is = tt
err_as (Err (Memory refused)) r is = tt
err_as (Err (Wrongs wrongs)) r is = (ap text_input is.0, is.1)

-- a text is what its sentences are
within_is : (bytes : List ℕ) → length bytes ≤ 1048576 → reading_within bytes ≡ reading_of_sentences (sentences_of bytes)
unfolding reading_of
within_is bytes few = ap (λ b. cond b (reading_of bytes) (Err (long_wrong ∷ []))) (le-leb (length bytes) 1048576 few)

-- bytes of no file that are no JSON, are few and declare something are the text of their sentences
pub text_is : (bytes : List ℕ) (at : List Sentence) → script_of bytes ≡ Err 0 → (length bytes ≤ 1048576) × (at ≡ sentences_of bytes) × (one_declares at ≡ true) → input_of None bytes ≡ text_input (reading_of_sentences at)
text_is bytes at bad (few, are, declares) =
    ap (λ b. cond (b && (nat_le (length bytes) 1048576 && one_declares (sentences_of bytes))) (text_input (reading_within bytes)) (json_input (script_of bytes))) (ap is_no_json bad)
    ∙ ap (λ b. cond (b && one_declares (sentences_of bytes)) (text_input (reading_within bytes)) (json_input (script_of bytes))) (le-leb (length bytes) 1048576 few)
    ∙ ap (λ b. cond b (text_input (reading_within bytes)) (json_input (script_of bytes))) (ap one_declares (sym are) ∙ declares)
    ∙ ap text_input (within_is bytes few)
    ∙ ap (λ s. text_input (reading_of_sentences s)) (sym are)

-- What is noted of a thread's sentence.
use Rattle.std.proofs.Common.{◌≡◌, ℕ, List, Result, Ok, OnOk, sym, ap, subst, ◌∙◌}
use Rattle.std.specs.Prelude.{⊤}
use Rattle.lwkt_text.specs.declared.listings.Listing.{Listing}
use Rattle.lwkt_text.specs.declared.words.Word.{Word}
use Rattle.lwkt_text.specs.declared.wrongs.Wrong.{Wrong}
use Rattle.lwkt_text.specs.Listing.{new_name, cpu_named, thread_used, thread_listed}

-- a thread whose name is new is used
pub new_thread_listed : {E : Type 0} (out : Result ⊤ E) (names shown : List (List ℕ)) (said : Result ⊤ Wrong) (ok : ⊤) (ws : List Word) (cpu : ℕ) (old new : Listing) → shown ≡ names → said ≡ new_name shown ws → said ≡ Ok ok → cpu ≡ cpu_named ws → OnOk out (new ≡ thread_used ws cpu old) → OnOk out (new ≡ thread_listed (new_name names ws) ws old)
new_thread_listed out names shown said ok ws cpu old new same is is_new its used =
    let named : said ≡ new_name names ws = is ∙ ap (λ (l : List (List ℕ)). new_name l ws) same in
    let Uses : ℕ → Type 0 = λ n. OnOk out (new ≡ thread_used ws n old) in
    let Lists : Result ⊤ Wrong → Type 0 = λ name. OnOk out (new ≡ thread_listed name ws old) in
    let so : Lists (Ok ok) = subst Uses its used in
    subst Lists (sym is_new ∙ named) so

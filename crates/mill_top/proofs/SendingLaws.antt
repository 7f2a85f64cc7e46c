-- What a sink has taken after pieces in a row.
use Rattle.std.proofs.Common.{◌≡◌, ℕ, ◌+◌, List, ◌++◌, take, drop, Option, Some, None, ap, sym, ◌∙◌, append_assoc, take-add}
use Rattle.io_traits.specs.Streams.{Got}

pub got_more : (before mid after : Option (List ℕ)) (bytes : List ℕ) (at n : ℕ)
    → Got before mid (take at bytes) → Got mid after (take n (drop at bytes)) → Got before after (take (at + n) bytes)
got_more None None after bytes at n first second = second
got_more None (Some taken) after bytes at n first second = cc
got_more (Some taken) None after bytes at n first second = cc
got_more (Some taken) (Some more) after bytes at n first second =
    let same : Some more ≡ Some (taken ++ take at bytes) = first in
    let more_is : more ≡ taken ++ take at bytes = cc in
    second ∙ ap (λ front. Some (front ++ take n (drop at bytes))) more_is
    ∙ ap (λ bytes'. Some bytes') (append_assoc taken (take at bytes) (take n (drop at bytes)) ∙ ap (λ piece. taken ++ piece) (sym (take-add at n bytes)))

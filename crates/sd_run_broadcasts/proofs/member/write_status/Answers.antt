use Rattle.std.proofs.Common.{◌≡◌, ◌-◌, ◌∙◌, ◌++◌, ℕ, List, OnOk, length, take, ap, subst}
use Rattle.sd_run_broadcasts.specs.Members.{text_of_status}
use Rattle.sd_run_broadcasts.specs.MemberTokens.{text_tokens}
use Rattle.sd_run_broadcasts.proofs.member.write_status.Goals as goal

pub returns-clause-tokens : goal.returns-clause-tokens
unfolding text_of_status
returns-clause-tokens c =
    let same : c.without_feed.result.now ≡ text_of_status c.args.status =
    c.without_feed.ensures ∙ ap (λ (line : List ℕ). take (length line - 1) line)
    (c.as_str.ensures ∙ c.in_ok-line.ensures.value) in
    subst (λ (text : List ℕ). OnOk c.write_text.result
    (c.write_text.new.out.tokens ≡ c.args.out.now.tokens ++ text_tokens c.args.name.now text)) same
    c.write_text.ensures.tokens

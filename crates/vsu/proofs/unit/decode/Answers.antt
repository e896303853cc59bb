use Rattle.vsu.proofs.CoreLaws as laws
use Rattle.vsu.proofs.unit.decode.Goals as goal

pub returns-in-1408 : goal.returns-in-1408
returns-in-1408 c = laws.decode-stop _ c.in-1408.is

pub returns-in-0-to-639 : goal.returns-in-0-to-639
returns-in-0-to-639 c = laws.decode-wave _ c.in-0-to-639.if-address-lt640-own.true

pub returns-in-640-to-767 : goal.returns-in-640-to-767
returns-in-640-to-767 c = laws.decode-modulation _ c.in-640-to-767.if-address-lt640-own.false c.in-640-to-767.if-address-lt768-own.true

pub returns-in-1024-to-1407 : goal.returns-in-1024-to-1407
returns-in-1024-to-1407 c = laws.decode-channel _ c.in-1024-to-1407.if-address-lt640-own.false c.in-1024-to-1407.if-address-lt768-own.false c.in-1024-to-1407.if-address-lt1024-own.false c.in-1024-to-1407.if-address-lt1408-own.true

pub returns-in_default : goal.returns-in_default
returns-in_default c = laws.decode-gap _ c.in_default.if-address-lt640-own.false c.in_default.if-address-lt768-own.false c.in_default.if-address-lt1024-own.true

pub returns-in_default-2 : goal.returns-in_default-2
returns-in_default-2 c = laws.decode-above _ c.in_default.if-address-lt640-own.false c.in_default.if-address-lt768-own.false c.in_default.if-address-lt1024-own.false c.in_default.if-address-lt1408-own.false c.in_default.in_default-own.rest.1

pub mod Places
pub mod Equal
pub mod Joined
pub mod Piles
pub mod Spelled
pub mod Faults
pub mod Refusals
pub mod Written
mod Stacks
mod TreeValues
mod Sums
mod Digits
mod Pieces
mod SoFar
mod Components
pub mod InfixParts
pub mod InfixEnds
pub mod InfixStates
pub mod InfixSteps
pub mod InfixNeeds
pub mod InfixSound
mod InfixAlone
mod InfixBothWays
pub mod AllFields
pub mod Divided
pub mod Words
